-- What a reader answers, seen as what is read: with memory enough it is the reading's answer.
use Rattle.std.specs.Prelude.{◌≡◌, ℕ, Result, Ok, Err}
use Rattle.mip_trace.specs.declared.fault.TraceFault.{TraceFault}
use Rattle.mip_trace.specs.declared.fault.TraceFault.TheVariants as faults

-- what a reader of a text returned is what a reading gives, unless memory ran out; a reading answers the number of the first bad line
abbrev pub GivesText : {X : Type 0} → Result X TraceFault → Result X ℕ → Type 0
GivesText (Ok x) read = read ≡ Ok x
GivesText (Err (faults.Bad line)) read = read ≡ Err line
GivesText (Err faults.Memory) read = Unit {0}

-- what holds of the number of a bad line, where that is the answer
abbrev pub OnBad : {X : Type 0} → Result X TraceFault → (ℕ → Type 0) → Type 0
OnBad (Ok x) P = Unit {0}
OnBad (Err (faults.Bad line)) P = P line
OnBad (Err faults.Memory) P = Unit {0}
