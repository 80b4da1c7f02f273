use Rattle.std.proofs.Common.{◌≡◌, take}
use Rattle.std.specs.Prelude.{Some}
use Rattle.std.specs.List.{flat_map}
use Rattle.mip_lines.specs.Lines.{line_text}
use Rattle.mip_trace.specs.Lines.{entry_row}
use Rattle.mip_trace.proofs.writing.write_trace.Given as goal

abbrev pub invariant-loop-entry : goal.invariant-loop-entry
invariant-loop-entry l = l.out ≡ flat_map (λ e. line_text (entry_row (Some l.schedule.declarations) e)) (take l.entry-index l.entry-items)
