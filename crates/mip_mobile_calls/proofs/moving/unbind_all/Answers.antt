use Rattle.std.proofs.Common.{sym, subst}
use Rattle.mip_rules_mobile.specs.TrialRules.{each_from}
use Rattle.mip_rules_mobile.specs.MovingRules.{unbinds}
use Rattle.mip_rules_mobile.specs.Transitions.{Transition}
use Rattle.mip_mobile_registration.specs.Seen.{Shows}
use Rattle.mip_mobile_calls.proofs.Rounds.{each-next}
use Rattle.mip_mobile_calls.proofs.moving.unbind_all.Goals as goal

pub loop-row-preserved : goal.loop-row-preserved
loop-row-preserved c = λ t shows.
    subst (λ (u : Transition). Shows c.unbind.new.context u) (sym (each-next unbinds c.loop-row.row t))
    (c.in_ok-unbind.ensures (each_from unbinds c.loop-row.row 0 t) (c.loop-row.invariant t shows))
