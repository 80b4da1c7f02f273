-- Places of the history of a run: behind the entries of its first events.
use Rattle.std.specs.Prelude.{ℕ, List, length, take}
use Rattle.mip_entries.specs.declared.entry.Entry.{Entry}
use Rattle.mip_schedule.specs.declared.event.Event.{Event}
use Rattle.mip_history.specs.Setup.{Setup}
use Rattle.mip_history.specs.Runs.{Run}
use Rattle.mip_history.specs.Permitted.{run_of}

-- the run of the first k events
abbrev pub run_at : Setup → List Event → ℕ → Run
run_at s events k = run_of s (take k events)

-- the place in the history of all events behind the entries of the first k
abbrev pub place_at : Setup → List Event → ℕ → ℕ
place_at s events k = length (run_at s events k).past

-- what lies before that place
abbrev pub front_at : Setup → List Event → ℕ → List Entry
front_at s events k = take (place_at s events k) (run_of s events).past
