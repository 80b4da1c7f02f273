-- What the theorem of delivery says of data between two settled ends.
use Rattle.std.specs.Prelude.{◌≡◌, ℕ, ◌≤◌, List, [], ◌∷◌, ◌++◌, length, Bool, true, false, Some, is_some, Contains, slice_get}
use Rattle.std.specs.List.{list_all}
use Rattle.std.specs.Option.{option_and_then}
use Rattle.mip_words.specs.declared.address.Address.{Address}
use Rattle.mip_ipv6.specs.Packet.{names_no_body}
use Rattle.mip_entries.specs.declared.entry.Entry.{Entry}
use Rattle.mip_entries.specs.declared.entry.Entry.TheVariants.{Sent, Heard, Up}
use Rattle.mip_entries.specs.Completed.{node_id}
use Rattle.mip_rules_correspondent.specs.Rules.{is_data}
use Rattle.mip_schedule.specs.declared.event.Event.{Event}
use Rattle.mip_schedule.specs.declared.event.Event.TheVariants.{Payload}
use Rattle.mip_history.specs.Setup.{Setup, Host, part_room}
use Rattle.mip_history.specs.Runs.{Run}
use Rattle.mip_history.specs.Questions.{declared_in}
use Rattle.mip_history.specs.Permitted.{run_of}
use Rattle.mip_history.specs.Settled.{is_settled}
use Rattle.mip_law_delivery.specs.Stretches.{run_on, left_by, split}
use Rattle.mip_law_delivery.specs.Answers.{DescendsBy, IsDelivered}
use Rattle.mip_law_delivery.specs.Quiet.{IsQuiet}

-- x is to send this data to an address
abbrev pub sending : ℕ → Address → ℕ → List ℕ → Event
sending x to proto payload = Payload (node_id x) to proto payload

abbrev pub is_heard : Entry → Bool
is_heard (Heard number outsider) = true
is_heard _ = false

-- these entries tell that x sent packet k, and nothing else but who heard it
pub record SendsOne (entries : List Entry) (k x : ℕ) : Type 0 where
  pub shielded : Bool
  pub packet : List ℕ
  pub rest : List Entry
  pub is : entries ≡ Sent k (node_id x) shielded packet ∷ rest
  pub heard : list_all is_heard rest ≡ true

-- packet `last`, which descends from packet k by two answers at most, is handed up by y as data between these home addresses
pub record IsHandedUp (s : Setup) (run : Run) (events : List Event) (k y : ℕ) (source destination : Address) (proto : ℕ) (payload : List ℕ) : Type 0 where
  pub answers : ℕ
  pub few : answers ≤ 2
  pub last : ℕ
  pub descends : DescendsBy answers s run events k last
  pub handed_up : Contains (left_by s run events) (Up (node_id y) last source destination proto payload)

-- each packet that descends from packet k, and k itself, is delivered by these events
abbrev pub IsAllDelivered : Setup → Run → List Event → ℕ → Type 0
IsAllDelivered s run events k = (answers j : ℕ) → DescendsBy answers s run events k j → IsDelivered s run events j

-- a node that is a correspondent or a mobile
abbrev pub is_end : Setup → ℕ → Bool
is_end s x = is_some (option_and_then (λ (host : Host). part_room host.kind) (slice_get s.hosts x))

-- x and y are two settled ends of a run, with these home addresses
pub record AreSettledEnds (s : Setup) (run : Run) (x y : ℕ) (own to : Address) : Type 0 where
  pub sender : is_end s x ≡ true
  pub receiver : is_end s y ≡ true
  pub source : declared_in run.past x ≡ Some own
  pub destination : declared_in run.past y ≡ Some to
  pub settled : is_settled s.start run.past x y ≡ true

-- what can be sent as data: it is of no protocol that has a meaning of its own here, and no header, and has 512 bytes at most
pub record IsPayload (proto : ℕ) (payload : List ℕ) : Type 0 where
  pub of_data : is_data proto ≡ true
  pub body : names_no_body proto ≡ false
  pub short : length payload ≤ 512

-- data from x to y, which these events follow: x sends one packet, numbered by how many were posted before; and if the stretch is
-- quiet and each packet that descends from it is delivered there, y hands up the data in it, with home addresses restored
pub record Reaches (s : Setup) (run : Run) (x y : ℕ) (own to : Address) (proto : ℕ) (payload : List ℕ) (more : List Event) : Type 0 where
  pub one : SendsOne (left_by s run (sending x to proto payload ∷ [])) (length run.posts) x
  pub arrives : IsQuiet s run (sending x to proto payload ∷ more) x y
      → IsAllDelivered s (run_on s run (sending x to proto payload ∷ [])) more (length run.posts)
      → IsHandedUp s (run_on s run (sending x to proto payload ∷ [])) more (length run.posts) y own to proto payload

-- the theorem, of a run of these events: data between settled ends reaches its end, wherever it is sent
abbrev pub EachReaches : Setup → List Event → Type 0
EachReaches s events =
    (before more rest : List Event) (x y : ℕ) (own to : Address) (proto : ℕ) (payload : List ℕ)
    → split events ≡ before ++ (sending x to proto payload ∷ (more ++ rest)) → IsPayload proto payload
    → AreSettledEnds s (run_of s before) x y own to → Reaches s (run_of s before) x y own to proto payload more
