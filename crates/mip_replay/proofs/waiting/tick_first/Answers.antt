use Rattle.std.proofs.Common.{◌≡◌, ℕ, suc, ◌+◌, ap, arith}
use Rattle.mip_history.specs.Waiting.{ticked}
use Rattle.mip_engine.proofs.GoesLaws.{gone, gone_after}
use Rattle.mip_replay.proofs.waiting.tick_first.Goals as goal

pub loop-node-preserved : goal.loop-node-preserved
unfolding ticked
loop-node-preserved c =
    let o = c.loop-node.node in
    let next : suc o ≡ o + 1 = omega arith in
    gone_after c.loop-node.invariant (gone c.in_ok-tick_one.ensures) (λ s run at. ap (λ (n : ℕ). ticked s n run) next)
