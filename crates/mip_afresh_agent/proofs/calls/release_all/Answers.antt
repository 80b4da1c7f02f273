use Rattle.std.proofs.Common.{rules}
use Rattle.mip_afresh_agent.proofs.CallLaws.{release_more}
use Rattle.mip_afresh_agent.proofs.calls.release_all.Goals as goal

pub loop-end-preserved : goal.loop-end-preserved
loop-end-preserved c = λ t shows.
    release_more c.args.ends.now c.loop-end.end-index _ t c.release.new.self (search rules) (c.in_ok-release.ensures _ (c.loop-end.invariant t shows))
