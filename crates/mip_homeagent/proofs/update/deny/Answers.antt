use Rattle.mip_rules_agent.specs.Rules.{denies}
use Rattle.mip_rules_agent.specs.Steps.{Denies}
use Rattle.mip_rules_agent.specs.Transitions.{noted}
use Rattle.mip_homeagent.specs.Showing.{opened}
use Rattle.mip_homeagent.specs.Contexts.{handing_at}
use Rattle.mip_homeagent.proofs.ShowingLaws.{leads_unchanged}
use Rattle.mip_homeagent.proofs.update.deny.Goals as goal

pub returns-clause-shows : goal.returns-clause-shows
unfolding denies
returns-clause-shows c = λ claim.
    let d = c.args.update.now.context.now in
    leads_unchanged (denies (handing_at d claim) c.args.update.now.registration.now c.args.status c.args.last) c.in_ok-answers.answers c.acknowledge.new.answers d.moment.0 (opened d.moment.0 d.known.now) c.in_ok-answers.ensures
    (λ now known claiming t shows.
    c.in_ok-acknowledge.ensures now known claiming (noted (Denies d.number c.args.status) t) (c.in_ok-note_denial.ensures now known claiming t shows))
