use Rattle.std.proofs.Common.{length}
use Rattle.mip_audit.proofs.CutLaws.{IsCutBefore}
use Rattle.mip_audit.proofs.cutting.cut_trace.Given as goal

abbrev pub invariant-loop-line : goal.invariant-loop-line
invariant-loop-line l = IsCutBefore l.given l.rest

abbrev pub decreases-loop-line : goal.decreases-loop-line
decreases-loop-line l = length l.rest
