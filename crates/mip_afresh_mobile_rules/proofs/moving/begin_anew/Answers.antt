use Rattle.mip_rules_mobile.specs.Steps.{Restarts}
use Rattle.mip_rules_mobile.specs.Transitions.{noted}
use Rattle.mip_rules_mobile.specs.MovingRules.{registers_if_away, restarts}
use Rattle.mip_afresh_mobile_rules.proofs.Asking.{asked}
use Rattle.mip_afresh_mobile_rules.proofs.moving.begin_anew.Goals as goal

pub returns : goal.returns
unfolding restarts
returns c =
    asked c.register_if_away.result c.args.turn.now c.register_if_away.new.turn (λ k n. k.standing) c.standing-standing.result
    (λ s t. registers_if_away s (noted (Restarts c.args.secrets) t)) c.standing-standing.ensures
    (λ t shows. c.register_if_away.ensures _ (c.in_ok-restart.ensures t shows))
