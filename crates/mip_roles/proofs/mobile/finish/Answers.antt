use Rattle.std.proofs.Common.{subst}
use Rattle.std.specs.Prelude.{OnOk}
use Rattle.mip_rules_mobile.specs.Doing.{transition_of}
use Rattle.mip_mobile_calls.specs.Seen.{Shows}
use Rattle.mip_roles.proofs.Ended.{ended-answers, ended-known, ended-calm}
use Rattle.mip_roles.proofs.mobile.finish.Goals as goal

pub returns-clause-answers : goal.returns-clause-answers
returns-clause-answers c = λ k now call shown.
    ended-answers k now call c.args.context.now c.take_answers.result (subst (λ r. OnOk r (Shows c.args.context.now (transition_of k now call))) c.in_ok-done.was shown) c.take_answers.ensures.answers

pub returns-clause-known : goal.returns-clause-known
returns-clause-known c = λ k now call shown.
    ended-known k now call c.args.context.now c.take_answers.new.self c.take_answers.result (subst (λ r. OnOk r (Shows c.args.context.now (transition_of k now call))) c.in_ok-done.was shown) c.take_answers.ensures.context

pub returns-clause-calm : goal.returns-clause-calm
returns-clause-calm c = λ k now call shown.
    ended-calm k now call c.args.context.now c.take_answers.new.self c.take_answers.result (subst (λ r. OnOk r (Shows c.args.context.now (transition_of k now call))) c.in_ok-done.was shown) c.take_answers.ensures.context
