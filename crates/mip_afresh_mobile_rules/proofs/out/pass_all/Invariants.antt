use Rattle.mip_rules_mobile.specs.OutRules.{passes_all}
use Rattle.mip_rules_mobile.specs.Transitions.{Transition}
use Rattle.mip_afresh_mobile_state.specs.Turns.{Shows}
use Rattle.mip_afresh_mobile_rules.proofs.out.pass_all.Given as goal

abbrev pub invariant-loop-answer : goal.invariant-loop-answer
invariant-loop-answer l = (t : Transition) → Shows l.fn.turn t → Shows l.turn (passes_all l.yielded t)
