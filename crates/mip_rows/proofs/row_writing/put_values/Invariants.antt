use Rattle.std.proofs.Common.{◌≡◌, ◌++◌, map, take}
use Rattle.mip_lines.specs.Lines.{spaced}
use Rattle.mip_rows.specs.Texts.{value_text}
use Rattle.mip_rows.proofs.row_writing.put_values.Given as goal

abbrev pub invariant-loop-value : goal.invariant-loop-value
invariant-loop-value l = l.out ≡ l.fn.out ++ spaced (map (value_text l.names) (take l.value-index l.values))
