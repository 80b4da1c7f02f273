-- The entries that tell: of the moment, of claims, of listeners, of lives, of acceptances, and of where mobiles are and what is
-- registered and bound. What is asked of a history is asked of these.
use Rattle.std.specs.Prelude.{◌≡◌, List, Bool, true, false, ◌||◌, if◌then◌else◌, Option, Some, None}
use Rattle.std.specs.List.{filter}
use Rattle.mip_entries.specs.declared.entry.Entry.{Entry}
use Rattle.mip_entries.specs.declared.entry.Entry.TheVariants.{At, Moved, Claimed, Released, Taken, Listening, Deafened, Careof, Home, Registered, Unregistered, Bound, Unbound, Restarted}
use Rattle.mip_history.specs.Bound.{is_accepted}
use Rattle.mip_afresh_marks.specs.declared.sights.Sights.{Sights}
use Rattle.mip_afresh_marks.specs.Sighting.{StandFor}

-- of the moment, of the network, and of lives
abbrev pub tells_of_network : Entry → Bool
tells_of_network (At moment) = true
tells_of_network (Claimed who link address) = true
tells_of_network (Released who link address) = true
tells_of_network (Taken who link address holder) = true
tells_of_network (Listening outsider link) = true
tells_of_network (Deafened outsider link) = true
tells_of_network (Restarted node) = true
tells_of_network _ = false

-- of where a mobile is, and of what is registered and bound
abbrev pub tells_of_mobile : Entry → Bool
tells_of_mobile (Moved node link) = true
tells_of_mobile (Careof node address) = true
tells_of_mobile (Home node home careof sequence end) = true
tells_of_mobile (Registered node agent end) = true
tells_of_mobile (Unregistered node agent) = true
tells_of_mobile (Bound node peer end) = true
tells_of_mobile (Unbound node peer) = true
tells_of_mobile _ = false

abbrev pub tells : Entry → Bool
tells entry = tells_of_network entry || (tells_of_mobile entry || is_accepted entry)

abbrev pub told_of : Entry → Option Entry
told_of entry = if tells entry then Some entry else None

-- what is kept beside a history: the entries that tell, and the sights
pub record IsBeside (past telling : List Entry) (sights : Sights) : Type 0 where
  pub told : telling ≡ filter tells past
  pub stand : StandFor sights past
