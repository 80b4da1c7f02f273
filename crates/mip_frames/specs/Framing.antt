-- Frames: how a packet stands in a datagram between two nodes.
use Rattle.std.specs.Prelude.{ℕ, ◌<◌, ◌^◌, ⊤, List, [], ◌∷◌, ◌++◌, length, drop, Bool, true, ◌==◌, nat_lt, if◌then◌else◌, Option, Some, None}
use Rattle.mip_words.specs.Addresses.{address_at, address_bytes}
use Rattle.mip_words.specs.declared.address.Address.{Address}
use Rattle.mip_words.specs.declared.shield.Shield.{Shield}
use Rattle.mip_frames.specs.declared.frame.Frame.{Frame}

-- what a frame carries
pub record Framed : Type 0 where
  pub shield : Option Shield
  pub packet : List ℕ

abbrev pub framed : Frame → Framed
framed f = record { shield = f.shield; packet = f.packet.now }

-- the bytes of a frame: 0 and the packet, or 1, the two ends of the shield and the packet
unfoldable pub frame_bytes : Option Shield → List ℕ → List ℕ
frame_bytes None packet = 0 ∷ packet
frame_bytes (Some shield) packet = 1 ∷ (address_bytes shield.from ++ (address_bytes shield.to ++ packet))

-- the shield behind a 1: where it begins and where it ends, in 16 bytes each
abbrev pub shield_at : List ℕ → Shield
shield_at rest = record { from = address_at 0 rest; to = address_at 16 rest }

-- what stands behind a 1
abbrev pub shielded_in : List ℕ → Option Framed
shielded_in rest =
    if nat_lt (length rest) 32 then None
    else Some (record { shield = Some (shield_at rest); packet = drop 32 rest })

abbrev pub carried_in : List ℕ → Option Framed
carried_in [] = None
carried_in (kind ∷ rest) =
    if kind == 0 then Some (record { shield = None; packet = rest })
    else if kind == 1 then shielded_in rest
    else None

-- what a datagram carries, where it is a frame: one has at most 4,096 bytes
unfoldable pub frame_of : List ℕ → Option Framed
frame_of datagram = if nat_lt 4096 (length datagram) then None else carried_in datagram

-- whether a shield, if there is one, ends at this address
abbrev pub ends_at : Address → Option Shield → Bool
ends_at own None = true
ends_at own (Some shield) = shield.to.0 == own.0

abbrev pub if_for : Address → Option Framed → Option Framed
if_for own None = None
if_for own (Some frame) = if ends_at own frame.shield then Some frame else None

-- what a datagram carries for the node with this address
abbrev pub framed_in : Address → List ℕ → Option Framed
framed_in own datagram = if_for own (frame_of datagram)

-- both ends of a shield, if there is one, are of 16 bytes
abbrev pub IsInRange : Option Shield → Type 0
IsInRange None = ⊤
IsInRange (Some shield) = (shield.from.0 < 2 ^ 128) × (shield.to.0 < 2 ^ 128)
