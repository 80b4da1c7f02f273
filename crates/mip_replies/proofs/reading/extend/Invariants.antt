use Rattle.std.proofs.Common.{◌≡◌, ◌++◌, length}
use Rattle.mip_replies.proofs.reading.extend.Given as goal

abbrev pub invariant-loop-rest : goal.invariant-loop-rest
invariant-loop-rest l = l.out ++ l.rest ≡ l.initial.out ++ l.bytes

abbrev pub decreases-loop-rest : goal.decreases-loop-rest
decreases-loop-rest l = length l.rest
