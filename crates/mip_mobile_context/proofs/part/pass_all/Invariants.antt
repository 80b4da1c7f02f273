use Rattle.mip_rules_mobile.specs.OutRules.{passes_all}
use Rattle.mip_rules_mobile.specs.Transitions.{Transition}
use Rattle.mip_mobile_context.specs.Seen.{Shows}
use Rattle.mip_mobile_context.proofs.part.pass_all.Given as goal

abbrev pub invariant-loop-answer : goal.invariant-loop-answer
invariant-loop-answer l = (t : Transition) → Shows l.fn.context t → Shows l.context (passes_all l.yielded t)
