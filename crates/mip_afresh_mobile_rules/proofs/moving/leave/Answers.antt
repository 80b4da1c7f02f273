use Rattle.mip_rules_mobile.specs.Steps.{Detaches}
use Rattle.mip_rules_mobile.specs.Transitions.{noted}
use Rattle.mip_rules_mobile.specs.TrialRules.{each_row}
use Rattle.mip_rules_mobile.specs.MovingRules.{releases, unbinds, leaves}
use Rattle.mip_afresh_mobile_rules.proofs.Asking.{asked}
use Rattle.mip_afresh_mobile_rules.proofs.moving.leave.Goals as goal

pub returns : goal.returns
unfolding leaves
returns c =
    asked c.detach.result c.args.turn.now c.detach.new.self (λ k n. k.standing) c.standing-standing.result
    (λ s t. noted Detaches (each_row unbinds (releases s c.args.of_home t))) c.standing-standing.ensures
    (λ t shows. c.detach.ensures _ (c.in_ok-unbind.ensures _ (c.in_ok-release_at.ensures t shows)))
