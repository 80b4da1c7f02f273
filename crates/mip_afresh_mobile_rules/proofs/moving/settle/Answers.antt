use Rattle.mip_rules_mobile.specs.MovingRules.{settles_at, settles}
use Rattle.mip_afresh_mobile_rules.proofs.Asking.{asked}
use Rattle.mip_afresh_mobile_rules.proofs.moving.settle.Goals as goal

pub returns : goal.returns
unfolding settles
returns c =
    asked c.settle_at.result c.args.turn.now c.settle_at.new.turn (λ k n. k.standing) c.standing-standing.result (λ s. settles_at s) c.standing-standing.ensures c.settle_at.ensures
