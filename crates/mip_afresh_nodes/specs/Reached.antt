-- A run that some events lead to.
use Rattle.std.specs.Prelude.{◌≡◌, List}
use Rattle.mip_schedule.specs.declared.event.Event.{Event}
use Rattle.mip_history.specs.Setup.{Setup}
use Rattle.mip_history.specs.Runs.{Run}
use Rattle.mip_history.specs.Permitted.{run_of}

pub record IsReached (s : Setup) (run : Run) : Type 0 where
  pub events : List Event
  pub is : run ≡ run_of s events
