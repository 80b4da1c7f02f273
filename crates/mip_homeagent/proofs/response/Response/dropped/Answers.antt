use Rattle.mip_rules_agent.specs.Steps.{Drops}
use Rattle.mip_rules_agent.specs.Transitions.{noted}
use Rattle.mip_homeagent.specs.Showing.{opened}
use Rattle.mip_homeagent.proofs.ShowingLaws.{leads_unchanged}
use Rattle.mip_homeagent.proofs.response.Response.dropped.Goals as goal

pub returns-clause-shows : goal.returns-clause-shows
returns-clause-shows c =
    let d = c.args.context.now in
    leads_unchanged (noted (Drops d.number c.args.why)) c.in_ok-answers.answers c.drop_packet.new.answers d.moment.0 (opened d.moment.0 d.known.now) c.in_ok-answers.ensures
    (λ now known claiming t shows. c.in_ok-drop_packet.ensures now known claiming t shows)
