use Rattle.std.proofs.Common.{◌≡◌, [], ◌++◌, take}
use Rattle.mip_lines.specs.Lines.{lines_text}
use Rattle.mip_schedule.specs.Spelling.{declaration_rows}
use Rattle.mip_schedule.proofs.declaration_writing.put_declarations.Given as goal

abbrev pub invariant-loop-i : goal.invariant-loop-i
invariant-loop-i l = l.out ≡ l.fn.out ++ lines_text (declaration_rows [] (take l.i l.ds))
