use Rattle.std.proofs.Common.{◌≡◌, ◌-◌, ◌≤◌, ◌++◌, length, drop}
use Rattle.mip_lines.specs.Cutting.{parts, texts}
use Rattle.mip_lines.specs.Spaces.{end_of}
use Rattle.mip_lines.proofs.cutting.few_fields.Given as goal

abbrev pub invariant-loop-end : goal.invariant-loop-end
invariant-loop-end l = record {
  cut : texts l.fields.items ++ parts 32 (drop l.start l.line) ≡ parts 32 l.line;
  end : l.end ≡ end_of l.start l.line;
  within : l.start ≤ length l.line;
}

abbrev pub decreases-loop-end : goal.decreases-loop-end
decreases-loop-end l = length l.line - l.start
