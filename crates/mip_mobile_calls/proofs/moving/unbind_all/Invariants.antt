use Rattle.mip_rules_mobile.specs.TrialRules.{each_from}
use Rattle.mip_rules_mobile.specs.MovingRules.{unbinds}
use Rattle.mip_rules_mobile.specs.Transitions.{Transition}
use Rattle.mip_mobile_registration.specs.Seen.{Shows}
use Rattle.mip_mobile_calls.proofs.moving.unbind_all.Given as goal

abbrev pub invariant-loop-row : goal.invariant-loop-row
invariant-loop-row l = (t : Transition) → Shows l.fn.context t → Shows l.context (each_from unbinds l.row 0 t)
