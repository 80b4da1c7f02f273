use Rattle.std.proofs.Common.{◌≡◌, length}
use Rattle.mip_lines.specs.Cutting.{parts}
use Rattle.mip_replies.specs.Lengths.{ends_behind_run}
use Rattle.mip_replies.proofs.lengths.event_lines.Given as goal

abbrev pub invariant-loop-line : goal.invariant-loop-line
invariant-loop-line l = ends_behind_run (parts 10 l.rest) ≡ ends_behind_run (parts 10 l.text)

abbrev pub decreases-loop-line : goal.decreases-loop-line
decreases-loop-line l = length l.rest
