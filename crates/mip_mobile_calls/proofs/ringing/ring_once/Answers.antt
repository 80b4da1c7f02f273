use Rattle.std.proofs.Common.{sym, ◌∙◌, subst, OnOk}
use Rattle.std.specs.Prelude.{Option}
use Rattle.mip_bulist.specs.declared.work.Work.{Work}
use Rattle.mip_bulist.specs.Timers.{due_work}
use Rattle.mip_rules_mobile.specs.TimerQuestions.{moment}
use Rattle.mip_rules_mobile.specs.RingingRules.{rings_on}
use Rattle.mip_mobile_calls.specs.Rounds.{rings_once}
use Rattle.mip_mobile_calls.proofs.Rounds.{some-work, is-none}
use Rattle.mip_mobile_calls.proofs.Contexts.{transition_at, from-context}
use Rattle.mip_mobile_registration.specs.Seen.{Shows}
use Rattle.mip_mobile_calls.proofs.ringing.ring_once.Goals as goal

pub returns-then-is_due : goal.returns-then-is_due
returns-then-is_due c =
    let d = c.args.context.now in
    let first = some-work (due_work (moment d.moment) d.known.list.timers) (sym c.is_due.ensures ∙ c.if-is_due.true) in
    from-context d (λ t. OnOk c.ring_first.result (Shows c.ring_first.new.context (rings_once t)))
    (λ steps shows. subst (λ (o : Option Work). OnOk c.ring_first.result (Shows c.ring_first.new.context (rings_on (λ u. u) o (transition_at d steps))))
    (sym first.1) (c.ring_first.ensures first.0 (transition_at d steps) first.1 shows))

pub returns-else-is_due : goal.returns-else-is_due
returns-else-is_due c =
    let d = c.args.context.now in
    let none = is-none (due_work (moment d.moment) d.known.list.timers) (sym c.is_due.ensures ∙ c.if-is_due.false) in
    from-context d (λ t. Shows d (rings_once t))
    (λ steps shows. subst (λ (o : Option Work). Shows d (rings_on (λ u. u) o (transition_at d steps))) (sym none) shows)
