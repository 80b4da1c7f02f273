-- A wait under way.
use Rattle.std.specs.Prelude.{◌≡◌, ℕ, Bool, Option, Some, None, nat_lt, if◌then◌else◌}
use Rattle.mip_history.specs.Waiting.{Waiting}
use Rattle.mip_afresh.specs.Tellings.{TellingSeen, with_run}

-- a run waits, and an `at` stands in this event or not
abbrev pub waiting : TellingSeen → Bool → Waiting
waiting t told = record { run = t.run; told = told }

-- so far a wait has come to this
pub record HasCome (old new : TellingSeen) (told : Bool) (w : Waiting) : Type 0 where
  pub run : new ≡ with_run w.run old
  pub tells : told ≡ w.told

-- the moment of what is due, where that is no later than the target
abbrev pub due_by : Option ℕ → (target : ℕ) → Option ℕ
due_by None target = None
due_by (Some due) target = if nat_lt target due then None else Some due
