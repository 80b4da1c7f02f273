use Rattle.std.proofs.Common.{◌≡◌, ◌++◌, take}
use Rattle.mip_lines.specs.Cutting.{texts}
use Rattle.mip_lines.specs.Lines.{spaced}
use Rattle.mip_lines.proofs.writing.put_spaced.Given as goal

abbrev pub invariant-loop-field : goal.invariant-loop-field
invariant-loop-field l = l.out ≡ l.fn.out ++ spaced (texts (take l.field-index l.fields))
