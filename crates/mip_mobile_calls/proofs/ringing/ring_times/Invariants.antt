use Rattle.mip_rules_mobile.specs.RingingRules.{ticks}
use Rattle.mip_rules_mobile.specs.Transitions.{Transition}
use Rattle.mip_mobile_registration.specs.Seen.{Shows}
use Rattle.mip_mobile_calls.proofs.ringing.ring_times.Given as goal

abbrev pub invariant-loop-round : goal.invariant-loop-round
invariant-loop-round l = (t : Transition) → Shows l.fn.context t → Shows l.context (ticks l._round t)
