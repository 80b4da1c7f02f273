-- What a reader of a line answers, seen as what is read: with memory enough it is the reading's answer.
use Rattle.std.specs.Prelude.{◌≡◌, Result, Ok, Err}
use Rattle.mip_symbols.specs.declared.line_fault.LineFault.{LineFault}
use Rattle.mip_symbols.specs.declared.line_fault.LineFault.TheVariants as line_faults
use Rattle.mip_symbols.specs.declared.reason.Reason.{Reason}

-- what a reader of one line returned, seen by a view, is what a reading gives, unless memory ran out
abbrev pub GivesLine : {X Y : Type 0} → (X → Y) → Result X LineFault → Result Y Reason → Type 0
GivesLine view (Ok x) read = read ≡ Ok (view x)
GivesLine view (Err (line_faults.Bad why)) read = read ≡ Err why
GivesLine view (Err line_faults.Memory) read = Unit {0}
