use Rattle.std.proofs.Common.{sym}
use Rattle.mip_engine.proofs.GoesLaws.{gone, gone_after}
use Rattle.mip_replay.proofs.AdvertLaws.{heard_more}
use Rattle.mip_replay.proofs.advertising.hear_first.Goals as goal

pub loop-other-preserved : goal.loop-other-preserved
loop-other-preserved c =
    gone_after c.loop-other.invariant (gone c.in_ok-hear_node.ensures) (λ s run at. sym (heard_more s c.args.link.0 c.args.node.0 c.loop-other.other run))
