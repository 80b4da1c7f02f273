use Rattle.std.proofs.Common.{sym, subst, ap, ◌∙◌, ◌++◌}
use Rattle.std.specs.Prelude.{Option, Bool, List}
use Rattle.mip_reception.specs.Registrations.{deletes}
use Rattle.mip_entries.specs.declared.answer.Answer.{Answer}
use Rattle.mip_rules_agent.specs.declared.ending.Ending.{Ending}
use Rattle.mip_rules_agent.specs.Questions.{bound_to, with_served}
use Rattle.mip_rules_agent.specs.Steps.{Registers}
use Rattle.mip_rules_agent.specs.Known.{Known}
use Rattle.mip_rules_agent.specs.Transitions.{Transition, noted}
use Rattle.mip_rules_agent.specs.Rules.{claims_if, answers_if, accepts}
use Rattle.mip_homeagent.specs.Changes.{unclaimed, with_holding, claims_held, holding_of, answers_change}
use Rattle.mip_homeagent.specs.Showing.{Shows, opened}
use Rattle.mip_homeagent.proofs.ShowingLaws.{registers, registered}
use Rattle.mip_homeagent.proofs.update.accept.Goals as goal

pub returns-clause-shows : goal.returns-clause-shows
unfolding accepts
returns-clause-shows c = λ claim held is t shows.
    let d = c.args.update.now.context.now in
    let now = d.moment.0 in
    let k : Known = opened now d.known.now in
    let home = c.args.home in
    let b = c.args.binding in
    let r = c.args.update.now.registration.now in
    let old = c.in_ok-answers.answers in
    let begins = subst (λ (l : List Answer). Shows now k unclaimed l t) (sym c.in_ok-answers.ensures) shows in
    let claimed : Transition = claims_if held (deletes r) home (noted (Registers d.number home b) t) in
    let first = registers d.number home b now k old c.note_change.new.answers t held (deletes r)
    (c.in_ok-note_change.ensures ∙ ap (λ (h : Option Bool). old ++ answers_change home b h) is) begins in
    let second = c.in_ok-answer_if.ensures now (registered d.number home b now k old c.note_change.new.answers t (holding_of held (deletes r))) (claims_held (holding_of held (deletes r)) home) claimed first in
    let leaves : Option Bool → List Ending → Known = λ h es. record { last = k.last; homes = with_holding h home (with_served (bound_to b) home k.homes); ends = es; agents = k.agents; plan = k.plan } in
    let answered : Transition = answers_if r.ack d.identity.now r c.args.granted claimed in
    subst (λ (h : Option Bool). Shows now (leaves h c.in_ok-ends.ends.items) (claims_held h home) c.answer_if.new.answers answered) (sym is)
    (subst (λ (es : List Ending). Shows now (leaves (holding_of held (deletes r)) es) (claims_held (holding_of held (deletes r)) home) c.answer_if.new.answers answered) (sym c.in_ok-ends.ensures) second)
