use Rattle.std.proofs.Common.{sym, subst}
use Rattle.mip_rules_mobile.specs.OutRules.{passes_all}
use Rattle.mip_rules_mobile.specs.Transitions.{Transition}
use Rattle.mip_mobile_context.specs.Seen.{Shows}
use Rattle.mip_mobile_context.proofs.Outs.{passes-push}
use Rattle.mip_mobile_context.proofs.part.pass_all.Goals as goal

pub loop-answer-preserved : goal.loop-answer-preserved
loop-answer-preserved c = λ t shows.
    subst (λ (u : Transition). Shows c.pass_on.new.context u) (sym (passes-push c.loop-answer.yielded c.in-Some.answer t))
    (c.in_ok-pass_on.ensures (passes_all c.loop-answer.yielded t) (c.loop-answer.invariant t shows))
