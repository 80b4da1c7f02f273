-- Laws of how a registration and bindings end: a timer is set for each end, and a tick leaves none behind its end. RFC 6275 section 11.7.3
use Rattle.std.specs.Prelude.{◌≡◌, ℕ, ◌<◌, List, [], ◌∷◌, length, true, if◌then◌else◌, Option, Some, None, is_some}
use Rattle.mip_words.specs.declared.moment.Moment.{Moment}
use Rattle.mip_bulist.specs.declared.home_timer.HomeTimer.TheVariants as home_timers
use Rattle.mip_bulist.specs.declared.timer.Timer.{Timer}
use Rattle.mip_bulist.specs.declared.work.Work.{Work}
use Rattle.mip_bulist.specs.declared.work.Work.TheVariants.{End, Home}
use Rattle.mip_bulist.specs.Timers.{is_of}
use Rattle.mip_rules_mobile.specs.declared.registered.Registered.{Registered}
use Rattle.mip_rules_mobile.specs.Known.{Known}
use Rattle.mip_rules_mobile.specs.RowQuestions.{peer_of_row}
use Rattle.mip_rules_mobile.specs.Wording.{bound_at}

-- when this work is due, where it is set
abbrev pub due_of : Work → List Timer → Option Moment
due_of work [] = None
due_of work (t ∷ ts) = if is_of work t then Some t.due else due_of work ts

-- a registration, and the binding of each row, has a timer for its end; a row that is bound has a peer
pub record AreTimed (k : Known) : Type 0 where
  pub whole : length k.peers ≡ 16
  pub registration : (r : Registered) → k.registered ≡ Some r → due_of (Home home_timers.End) k.list.timers ≡ Some r.end
  pub binding : (row : ℕ) (end : Moment) → row < 16 → bound_at k row ≡ Some end → due_of (End row) k.list.timers ≡ Some end
  pub peer : (row : ℕ) (end : Moment) → row < 16 → bound_at k row ≡ Some end → is_some (peer_of_row k row) ≡ true

-- the ends of the registration and of each binding lie ahead
pub record LieAhead (now : ℕ) (k : Known) : Type 0 where
  pub registration : (r : Registered) → k.registered ≡ Some r → now < r.end.0
  pub binding : (row : ℕ) (end : Moment) → row < 16 → bound_at k row ≡ Some end → now < end.0
