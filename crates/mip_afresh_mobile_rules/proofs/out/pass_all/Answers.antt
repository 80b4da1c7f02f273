use Rattle.std.proofs.Common.{sym, subst}
use Rattle.mip_rules_mobile.specs.OutRules.{passes_all}
use Rattle.mip_rules_mobile.specs.Transitions.{Transition}
use Rattle.mip_afresh_mobile_state.specs.Turns.{Shows}
use Rattle.mip_afresh_mobile_rules.proofs.Rounds.{passes-more}
use Rattle.mip_afresh_mobile_rules.proofs.out.pass_all.Goals as goal

pub loop-answer-preserved : goal.loop-answer-preserved
loop-answer-preserved c = λ t shows.
    subst (λ (u : Transition). Shows c.pass_on.new.turn u) (sym (passes-more c.loop-answer.yielded c.in-Some.answer t))
    (c.in_ok-pass_on.ensures (passes_all c.loop-answer.yielded t) (c.loop-answer.invariant t shows))
