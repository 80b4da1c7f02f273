-- What a reader answers, seen as what is read: with memory enough it is the reading's answer.
use Rattle.std.specs.Prelude.{◌≡◌, ℕ, Result, Ok, Err}
use Rattle.mip_schedule.specs.declared.fault.ScheduleFault.{ScheduleFault}
use Rattle.mip_schedule.specs.declared.fault.ScheduleFault.TheVariants as faults
use Rattle.mip_symbols.specs.declared.reason.Reason.{Reason}

-- the first bad line of a text, and why
pub record Wrong : Type 0 where
  pub line : ℕ
  pub why : Reason

-- what a reader of a text returned, seen by a view, is what a reading gives, unless memory ran out
abbrev pub GivesText : {X Y : Type 0} → (X → Y) → Result X ScheduleFault → Result Y Wrong → Type 0
GivesText view (Ok x) read = read ≡ Ok (view x)
GivesText view (Err (faults.Bad line why)) read = read ≡ Err (record { line = line; why = why })
GivesText view (Err faults.Memory) read = Unit {0}
