use Rattle.std.proofs.Common.{◌≡◌, ℕ, false, length, refl, ap, ◌∙◌, subst}
use Rattle.std.specs.Prelude.{Option, Some, None, IfOk}
use Rattle.mip_history.specs.Waiting.{due_of, earliest, is_due}
use Rattle.mip_engine.proofs.GoesLaws.{goes_as, goes_nowhere}
use Rattle.mip_replay.proofs.WaitLaws.{earliest_is, next_run}
use Rattle.mip_replay.proofs.waiting.work_next.Goals as goal

pub returns-in-Some-clause-more : goal.returns-in-Some-clause-more
returns-in-Some-clause-more c = λ s run at.
    let is : Some c.in-Some.due.0 ≡ earliest (due_of s run) (length s.hosts) = c.in-Some.ensures ∙ earliest_is c.args.engine.now s run at in
    subst (λ (o : Option ℕ). IfOk c.work_by.result (λ more. more ≡ is_due o c.args.target.moment.0)) is c.work_by.ensures.more

pub returns-in-Some-clause-after : goal.returns-in-Some-clause-after
returns-in-Some-clause-after c =
    goes_as c.work_by.ensures.after (λ s run at. ap (λ (o : Option ℕ). next_run s c.args.target.moment.0 o run c.args.told) (c.in-Some.ensures ∙ earliest_is c.args.engine.now s run at))

pub returns-in-None-clause-more : goal.returns-in-None-clause-more
returns-in-None-clause-more c = λ s run at.
    let is : None ≡ earliest (due_of s run) (length s.hosts) = c.in-None.ensures ∙ earliest_is c.args.engine.now s run at in
    subst (λ (o : Option ℕ). false ≡ is_due o c.args.target.moment.0) is refl

pub returns-in-None-clause-after : goal.returns-in-None-clause-after
returns-in-None-clause-after c =
    goes_nowhere (λ s run at. ap (λ (o : Option ℕ). next_run s c.args.target.moment.0 o run c.args.told) (c.in-None.ensures ∙ earliest_is c.args.engine.now s run at))
