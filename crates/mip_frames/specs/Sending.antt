-- What the packets of a wire ask of its link, and what the link shows of them.
use Rattle.std.specs.Prelude.{◌≡◌, ℕ, ◌⊎◌, List, [], ◌∷◌, ◌++◌, Option, Some, None, option_map}
use Rattle.std.specs.List.{flat_map}
use Rattle.mip_words.specs.declared.shield.Shield.{Shield}
use Rattle.mip_outside.specs.LinkCalls.{called}
use Rattle.mip_outside.specs.declared.asked.Asked.{Asked}
use Rattle.mip_outside.specs.declared.asked.Asked.TheVariants.{Send}
use Rattle.mip_outside.specs.declared.link_call.LinkCall.{LinkCall}
use Rattle.mip_outside.specs.declared.put.Put.{Put}
use Rattle.mip_outside.specs.declared.put.Put.TheVariants.{Sent, NoRoute, Oversize}
use Rattle.mip_outside.specs.declared.put_fault.PutFault.TheVariants.{Failed, Memory}
use Rattle.mip_frames.specs.Framing.{Framed, frame_of}

-- what is asked of the link for a packet of which this becomes
abbrev pub asked_by : Put → List Asked
asked_by Sent = Send ∷ []
asked_by NoRoute = []
asked_by Oversize = []

-- the link was asked to send once at most, and no call follows one that failed
pub record AsksOnce (failed memory : Type 0) (before after : List LinkCall) : Type 0 where
  pub cut : failed → after ≡ before ++ called Send (Some Failed) ∷ []
  pub lost : memory → (after ≡ before) ⊎ (after ≡ before ++ called Send (Some Memory) ∷ [])

-- the packet that a datagram carries, with its shield, if it is a frame
abbrev pub packet_of : Option Framed → List (Option Shield × List ℕ)
packet_of None = []
packet_of (Some frame) = (frame.shield, frame.packet) ∷ []

abbrev pub packet_in : ℕ × List ℕ → List (Option Shield × List ℕ)
packet_in sent = packet_of (frame_of sent.1)

-- the packets that datagrams carry to their ports, in order
unfoldable pub packets_in : List (ℕ × List ℕ) → List (Option Shield × List ℕ)
packets_in items = flat_map packet_in items

abbrev pub packets_of : Option (List (ℕ × List ℕ)) → Option (List (Option Shield × List ℕ))
packets_of sent = option_map packets_in sent
