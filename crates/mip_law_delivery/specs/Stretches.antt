-- A stretch of a history is what whole events leave, where each packet that is carried is an event of its own. So a stretch never
-- ends between a packet that is handed over and what the node does about it.
use Rattle.std.specs.Prelude.{◌≡◌, List, [], ◌∷◌, ◌++◌, length, drop, fold, replicate}
use Rattle.mip_entries.specs.declared.entry.Entry.{Entry}
use Rattle.mip_schedule.specs.declared.event.Event.{Event}
use Rattle.mip_schedule.specs.declared.event.Event.TheVariants.{Carry}
use Rattle.mip_history.specs.Setup.{Setup}
use Rattle.mip_history.specs.Runs.{Run}
use Rattle.mip_history.specs.Permitted.{happens}

-- a run after these events more
abbrev pub run_on : Setup → Run → List Event → Run
run_on s run events = fold (λ r event. happens s r event) run events

-- the entries that they leave
abbrev pub left_by : Setup → Run → List Event → List Entry
left_by s run events = drop (length run.past) (run_on s run events).past

-- `carry N` counts as N times `carry 1`
abbrev pub split : List Event → List Event
split [] = []
split (Carry count ∷ events) = replicate count (Carry 1) ++ split events
split (event ∷ events) = event ∷ split events

-- one of these events leaves these entries
pub record IsLeftByOne (s : Setup) (run : Run) (events : List Event) (entries : List Entry) : Type 0 where
  pub before : List Event
  pub event : Event
  pub after : List Event
  pub place : events ≡ before ++ event ∷ after
  pub is : entries ≡ left_by s (run_on s run before) (event ∷ [])
