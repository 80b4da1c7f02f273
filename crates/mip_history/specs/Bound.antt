-- What stands behind a binding: the update that made it, in the life of the node, with the verdict on its bytes.
-- RFC 6275 sections 9.5.1 and 5.2
use Rattle.std.specs.Prelude.{◌≡◌, ◌≢◌, ℕ, ◌<◌, List, [], ◌∷◌, ◌++◌, fold, Bool, false, true, ◌==◌, if◌then◌else◌, Option, Some, Ok, option_map, is_some, slice_get}
use Rattle.std.specs.List.{list_any}
use Rattle.mip_words.specs.EachAfter.{EachAfter}
use Rattle.mip_words.specs.declared.address.Address.{Address}
use Rattle.mip_ipv6.specs.Packet.{Packet}
use Rattle.mip_ipv6.specs.Reading.{packet_of}
use Rattle.mip_ipv6.specs.Tunnel.{opened}
use Rattle.mip_nonce.specs.Window.{index_of}
use Rattle.mip_binding.specs.Acceptance.{Acceptance}
use Rattle.mip_binding.specs.Held.{held, held_under, floor, is_full}
use Rattle.mip_bcache.specs.declared.accepted.Accepted.{Accepted}
use Rattle.mip_tokens.specs.declared.kbm.Kbm.{Kbm}
use Rattle.mip_entries.specs.declared.entry.Entry.{Entry}
use Rattle.mip_entries.specs.declared.entry.Entry.TheVariants as entries
use Rattle.mip_entries.specs.Completed.{node_id}
pub use Rattle.mip_provenance.specs.Entries.{packet_told, packet_in}
use Rattle.mip_reception.specs.declared.registration.Registration.{Registration}
use Rattle.mip_rules_correspondent.specs.declared.verdict.Verdict.TheVariants.{Accept}
use Rattle.mip_reception.specs.Registrations.{registration_in}
use Rattle.mip_rules_correspondent.specs.Soundness.{IsSound}
use Rattle.mip_rules_correspondent.specs.Verdicts.{Bench, verdict}
use Rattle.mip_history.specs.Setup.{Setup, Kind, part_room}
use Rattle.mip_history.specs.Setup.Kind.{Correspondent, Agent, Mobile}
use Rattle.mip_history.specs.Questions.{moment_in, life_in}
use Rattle.mip_history.specs.Shields.{is_shielded_in}

-- the moment, and what a node has accepted in its present life, oldest first
pub record Lived : Type 0 where
  pub at : ℕ
  pub accepted : List Acceptance

abbrev pub lived : ℕ → Lived → Entry → Lived
lived n l (entries.At moment) = record { at = moment.0; accepted = l.accepted }
lived n l (entries.Restarted node) = record { at = l.at; accepted = if n == node.0 then [] else l.accepted }
lived n l (entries.Accepted node number home binding careof sequence end i j) =
    if n == node.0
    then record { at = l.at; accepted = l.accepted ++ record { at = l.at; home = home.0; number = binding; careof = careof.0; sequence = sequence; end = end.0 } ∷ [] }
    else l
lived n l _ = l

unfoldable pub accepted_by : ℕ → List Entry → ℕ → List Acceptance
accepted_by start past n = (fold (lived n) (record { at = start; accepted = [] }) past).accepted

-- the care-of address that a node holds for a home, at the end of a history: of its bindings that stand, that of the last
-- one accepted
abbrev pub held_in : Setup → List Entry → ℕ → ℕ → Option ℕ
held_in s past n home = held (accepted_by s.start past n) home (moment_in s.start past)

-- the one that it holds for a home under a number
abbrev pub held_under_in : Setup → List Entry → ℕ → (home number : ℕ) → Option ℕ
held_under_in s past n home number = held_under (accepted_by s.start past n) home number (moment_in s.start past)

-- the sequence that an update of a home must come after
abbrev pub floor_in : Setup → List Entry → ℕ → ℕ → Option ℕ
floor_in s past n home = floor (accepted_by s.start past n) home (moment_in s.start past)

-- node n as a judge at the end of a history: its secrets of this life, the moment, and what it keeps of a home
abbrev pub judge_in : Setup → List Entry → ℕ → Address → ℕ → ℕ → Bench
judge_in s past n own room home = record {
  own = own;
  secrets = record { seed = s.seed; node = n; life = life_in past n };
  now = moment_in s.start past;
  floor = floor (accepted_by s.start past n) home (moment_in s.start past);
  full = is_full room (accepted_by s.start past n) home (moment_in s.start past);
  numbers = s.numbers;
}

-- what the correspondent part of a mobile reads of packet k: the packet itself, or the one within its tunnel, which was posted under
-- a shield
pub data IsReadIn (past : List Entry) (k : ℕ) (bytes : List ℕ) (packet : Packet) : Type 0 where
  Itself : packet_of bytes ≡ Ok packet → IsReadIn past k bytes packet
  Within : (outer : Packet) → packet_of bytes ≡ Ok outer → opened outer.head.source outer ≡ Ok packet → is_shielded_in past k ≡ Some true → IsReadIn past k bytes packet

-- what a node reads of a packet that it is handed: a correspondent the packet itself, a mobile that or the one within its tunnel
abbrev pub IsReadBy : Kind → List Entry → ℕ → List ℕ → Packet → Type 0
IsReadBy (Correspondent room) past k bytes packet = packet_of bytes ≡ Ok packet
IsReadBy (Agent preference life room serves) past k bytes packet = ⊥
IsReadBy (Mobile agent) past k bytes packet = IsReadIn past k bytes packet

-- behind this history node n accepted packet k, which it had just been handed, under a binding number: the verdict on its bytes
pub record IsAccepted (s : Setup) (past : List Entry) (n k : ℕ) (home : Address) (binding : ℕ) (accepted : Accepted) : Type 0 where
  -- it is a correspondent, or a mobile, with this address and room
  pub own : Address
  pub kind : Kind
  pub room : ℕ
  pub is_host : slice_get s.hosts n ≡ Some (record { address = own; kind = kind })
  pub has_room : part_room kind ≡ Some room
  pub earlier : List Entry
  pub handed : past ≡ earlier ++ entries.Handed k (node_id n) ∷ []
  pub bytes : List ℕ
  pub posted : packet_in past k ≡ Some bytes
  pub packet : Packet
  pub read : IsReadBy kind past k bytes packet
  pub mobility : packet.head.proto ≡ 135
  pub registration : Registration
  pub asks : registration_in packet.head.source packet.head.home packet.body ≡ Some registration
  pub granted : ℕ
  pub kbm : Kbm
  pub verdict_is : verdict (judge_in s past n own room home.0) registration packet.body ≡ Accept home binding accepted granted kbm
  -- its authenticator is that of the tokens under nonces valid then, and its sequence comes after the one that was kept
  pub sound : IsSound (judge_in s past n own room home.0) registration packet.body home binding accepted granted kbm

-- the entry of what was accepted
abbrev pub accepted_entry : ℕ → ℕ → Address → ℕ → Accepted → Entry
accepted_entry n k home binding a =
    entries.Accepted (node_id n) k home binding a.careof a.sequence a.end (index_of a.home_nonce) (option_map index_of a.careof_nonce)

abbrev pub is_accepted : Entry → Bool
is_accepted (entries.Accepted node number home binding careof sequence end i j) = true
is_accepted _ = false

-- an entry behind this history is that of an update which was accepted there
pub record HasAccepted (s : Setup) (past : List Entry) (e : Entry) : Type 0 where
  pub node : ℕ
  pub number : ℕ
  pub home : Address
  pub binding : ℕ
  pub accepted : Accepted
  pub is : e ≡ accepted_entry node number home binding accepted
  pub stands : IsAccepted s past node number home binding accepted

abbrev pub is_restart_of : ℕ → Entry → Bool
is_restart_of n (entries.Restarted node) = n == node.0
is_restart_of n _ = false

-- a binding of a home outlives an entry behind this history, unless by it the node accepts for the same home an update that
-- ends bindings, or one of the same number, or any while no sequence of the home is kept
abbrev pub Outlives : Setup → (n home binding : ℕ) → List Entry → Entry → Type 0
Outlives s n home binding past (entries.Accepted node number of other careof sequence end i j) =
    n ≡ node.0 → of.0 ≡ home → (careof.0 ≢ home) × (other ≢ binding) × (is_some (floor_in s past n home) ≡ true)
Outlives s n home binding past _ = Unit {0}

-- a care-of address is held by an update of this life, which no later one of its home has ended: it lives
pub record IsBound (s : Setup) (past : List Entry) (n home careof : ℕ) : Type 0 where
  pub before : List Entry
  pub number : ℕ
  pub of : Address
  pub binding : ℕ
  pub accepted : Accepted
  pub after : List Entry
  pub whole : past ≡ before ++ accepted_entry n number of binding accepted ∷ after
  pub of_home : of.0 ≡ home
  pub of_careof : accepted.careof.0 ≡ careof
  pub away : careof ≢ home
  pub in_time : moment_in s.start past < accepted.end.0
  pub this_life : list_any (is_restart_of n) after ≡ false
  pub lives : EachAfter (Outlives s n home binding) (before ++ accepted_entry n number of binding accepted ∷ []) after
  pub verdict_stands : IsAccepted s before n number of binding accepted

-- and by the one under this number
pub record IsBoundUnder (s : Setup) (past : List Entry) (n home binding careof : ℕ) : Type 0 where
  pub bound : IsBound s past n home careof
  pub under : bound.binding ≡ binding
