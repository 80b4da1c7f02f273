-- What a call that adds lines to a draft answers, and what the draft then is: with memory enough, what its definition gives.
use Rattle.std.specs.Prelude.{◌≡◌, ℕ, ⊤, Result, Ok, Err}
use Rattle.mip_symbols.specs.declared.line_fault.LineFault.{LineFault}
use Rattle.mip_symbols.specs.declared.line_fault.LineFault.TheVariants as line_faults
use Rattle.mip_symbols.specs.declared.reason.Reason.{Reason}
use Rattle.mip_schedule.specs.declared.fault.ScheduleFault.{ScheduleFault}
use Rattle.mip_schedule.specs.declared.fault.ScheduleFault.TheVariants as faults
use Rattle.mip_schedule.specs.Faults.{Wrong}
use Rattle.mip_drafts.specs.Walk.{Walked}

-- one line was added, or is bad
abbrev pub Becomes : {S U : Type 0} → S → Result U LineFault → Result S Reason → Type 0
Becomes new (Ok u) given = given ≡ Ok new
Becomes new (Err (line_faults.Bad why)) given = given ≡ Err why
Becomes new (Err line_faults.Memory) given = ⊤

-- the line n was added, or is bad
abbrev pub IsRead : {S U : Type 0} → ℕ → S → Result U ScheduleFault → Result S Reason → Type 0
IsRead n new (Ok u) given = given ≡ Ok new
IsRead n new (Err (faults.Bad line why)) given = (line ≡ n) × (given ≡ Err why)
IsRead n new (Err faults.Memory) given = ⊤

-- all lines were added, or this is the first bad one
abbrev pub IsWalked : {S : Type 0} → S → Result ℕ ScheduleFault → Result (Walked S) Wrong → Type 0
IsWalked new (Ok line) given = given ≡ Ok (record { draft = new; line = line })
IsWalked new (Err (faults.Bad line why)) given = given ≡ Err (record { line = line; why = why })
IsWalked new (Err faults.Memory) given = ⊤
