-- Laws and invariants of Quiet: only proofs stand on them.
use Rattle.std.specs.Prelude.{ℕ, List, [], ◌∷◌, length, Bool, true, false, Contains}
use Rattle.mip_words.specs.declared.address.Address.{Address}
use Rattle.mip_entries.specs.declared.entry.Entry.{Entry}
use Rattle.mip_entries.specs.declared.entry.Entry.TheVariants as entries
use Rattle.mip_entries.specs.Completed.{node_id}
use Rattle.mip_schedule.specs.declared.event.Event.{Event}
use Rattle.mip_history.specs.Setup.{Setup}
use Rattle.mip_history.specs.Permitted.{run_of}
use Rattle.mip_law_delivery.specs.Orderly.{IsOrderly}
use Rattle.mip_law_delivery.specs.Stretches.{run_on, left_by}
use Rattle.mip_law_delivery.specs.Quiet.{IsQuiet}
use Rattle.mip_law_delivery.specs.Reached.{sending, IsAllDelivered, AreSettledEnds, IsPayload}

-- an entry by which something changes of where a node is, who holds an address, or what is registered or bound
abbrev pub is_change : Entry → Bool
is_change (entries.Moved node link) = true
is_change (entries.Careof node address) = true
is_change (entries.Claimed who link address) = true
is_change (entries.Released who link address) = true
is_change (entries.Restarted node) = true
is_change (entries.Home node home careof sequence end) = true
is_change (entries.Registered node agent end) = true
is_change (entries.Unregistered node agent) = true
is_change (entries.Accepted node number home binding careof sequence end i j) = true
is_change (entries.Bound node peer end) = true
is_change (entries.Unbound node peer) = true
is_change _ = false

-- data between two settled ends of a run, in a quiet stretch in which it is handed over, and in which all is delivered that comes of it
pub record HasQuietDelivery : Type 0 where
  pub s : Setup
  pub orderly : IsOrderly s
  pub before : List Event
  pub more : List Event
  pub x : ℕ
  pub y : ℕ
  pub own : Address
  pub to : Address
  pub proto : ℕ
  pub payload : List ℕ
  pub of_data : IsPayload proto payload
  pub ends : AreSettledEnds s (run_of s before) x y own to
  pub quiet : IsQuiet s (run_of s before) (sending x to proto payload ∷ more) x y
  pub all : IsAllDelivered s (run_on s (run_of s before) (sending x to proto payload ∷ [])) more (length (run_of s before).posts)
  pub handed : Contains (left_by s (run_on s (run_of s before) (sending x to proto payload ∷ [])) more) (entries.Handed (length (run_of s before).posts) (node_id y))
