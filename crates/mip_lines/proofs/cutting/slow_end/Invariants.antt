use Rattle.std.proofs.Common.{◌≡◌, ◌-◌, ◌≤◌, length}
use Rattle.mip_lines.specs.Spaces.{end_of}
use Rattle.mip_lines.proofs.cutting.slow_end.Given as goal

abbrev pub invariant-loop-place : goal.invariant-loop-place
invariant-loop-place l = (end_of l.from l.line ≡ end_of l.place l.line) × (l.place ≤ length l.line)

abbrev pub decreases-loop-place : goal.decreases-loop-place
decreases-loop-place l = length l.line - l.place
