-- Laws and invariants of Answers: only proofs stand on them.
use Rattle.std.specs.Prelude.{◌≡◌, ℕ, Bool}
use Rattle.mip_schedule.specs.declared.event.Event.{Event}
use Rattle.mip_history.specs.Setup.{Setup}
use Rattle.mip_history.specs.Runs.{Run}
use Rattle.mip_history.specs.Delivery.{delivered}
use Rattle.mip_history.specs.Permitted.{happens}

-- an event delivers packet k, which then leaves the pool or stays there
pub record Delivers (s : Setup) (run : Run) (event : Event) (k : ℕ) : Type 0 where
  pub keep : Bool
  pub is : happens s run event ≡ delivered s run k keep
