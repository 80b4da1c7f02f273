use Rattle.std.proofs.Common.{false, subst}
use Rattle.mip_rules_agent.specs.declared.home_verdict.HomeVerdict.{HomeVerdict}
use Rattle.mip_rules_agent.specs.Rules.{judged}
use Rattle.mip_homeagent.specs.Contexts.{handing_at, Follows}
use Rattle.mip_homeagent.proofs.update.deny_claim.Goals as goal

pub returns-clause-shows : goal.returns-clause-shows
returns-clause-shows c = λ asked.
    let d = c.args.update.now.context.now in
    subst (λ (v : HomeVerdict). Follows d c.carry_out.result (judged (handing_at d asked) c.args.update.now.registration.now false v)) c.by_claim-denied.ensures
    (c.carry_out.ensures.shows asked)
