-- A run whose history is given away piece by piece, and which takes its events one by one.
use Rattle.std.specs.Prelude.{◌≡◌, ◌≤◌, ℕ, List, ◌++◌, length, drop, take}
use Rattle.mip_entries.specs.declared.entry.Entry.{Entry}
use Rattle.mip_symbols.specs.Places.{AreFew}
use Rattle.mip_schedule.specs.Contents.{Content}
use Rattle.mip_schedule.specs.Lawful.{IsLawful}
use Rattle.mip_schedule.specs.declared.event.Event.{Event}
use Rattle.mip_history.specs.Setup.{setup_of}
use Rattle.mip_history.specs.Permitted.{permitted, run_of}
use Rattle.mip_engine.specs.Engines.{EngineSeen}
use Rattle.mip_engine.specs.Standing.{IsAt}

pub record RunSeen : Type 0 where
  pub engine : EngineSeen
  -- the events that are still to come, the next one first
  pub coming : List Event
  -- the entries that were given away, oldest first
  pub told : List Entry

-- the run of a schedule after its first events. What it told is a front of the permitted history
pub record IsRunOf (r : RunSeen) (c : Content) : Type 0 where
  -- how many events have happened
  pub next : ℕ
  pub stands : IsAt r.engine (setup_of c) (run_of (setup_of c) (take next c.events))
  pub within : next ≤ length c.events
  pub coming : r.coming ≡ drop next c.events
  pub told : r.told ≡ r.engine.told
  pub rest : List Entry
  pub front : permitted c ≡ r.told ++ rest
  pub lawful : IsLawful c
  pub few : AreFew c.declarations

-- the run of a schedule, whichever that is
abbrev pub IsRun : RunSeen → Type 0
IsRun r = (c : Content) × IsRunOf r c
