use Rattle.std.proofs.Common.{◌≡◌, ◌+◌, ◌≤◌, length}
use Rattle.mip_lines.specs.Cutting.{parts}
use Rattle.mip_replies.proofs.lengths.ends.Given as goal

abbrev pub invariant-loop-more : goal.invariant-loop-more
invariant-loop-more l =
    (l.count + length (parts 10 l.rest) ≡ length (parts 10 l.text)) × (l.count + length l.rest ≤ length l.text)

abbrev pub decreases-loop-more : goal.decreases-loop-more
decreases-loop-more l = length l.rest
