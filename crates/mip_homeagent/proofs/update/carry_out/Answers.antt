use Rattle.std.proofs.Common.{sym, subst}
use Rattle.mip_rules_agent.specs.declared.home_binding.HomeBinding.{HomeBinding}
use Rattle.mip_rules_agent.specs.declared.home_verdict.HomeVerdict.{HomeVerdict}
use Rattle.mip_rules_agent.specs.Rules.{accepts, judged}
use Rattle.mip_homeagent.specs.Contexts.{handing_at, Follows}
use Rattle.mip_homeagent.proofs.update.carry_out.Goals as goal

pub returns-in-Refuse-clause-shows : goal.returns-in-Refuse-clause-shows
returns-in-Refuse-clause-shows c = λ claim.
    let d = c.args.update.now.context.now in
    subst (λ (v : HomeVerdict). Follows d c.dropped.result (judged (handing_at d claim) c.args.update.now.registration.now c.args.held v)) (sym c.in-Refuse.is) c.dropped.ensures.shows

pub returns-in-Deny-clause-shows : goal.returns-in-Deny-clause-shows
returns-in-Deny-clause-shows c = λ claim.
    let d = c.args.update.now.context.now in
    subst (λ (v : HomeVerdict). Follows d c.deny.result (judged (handing_at d claim) c.args.update.now.registration.now c.args.held v)) (sym c.in-Deny.is) (c.deny.ensures.shows claim)

pub returns-in-Accept-clause-shows : goal.returns-in-Accept-clause-shows
returns-in-Accept-clause-shows c = λ claim.
    let d = c.args.update.now.context.now in
    let r = c.args.update.now.registration.now in
    let h = handing_at d claim in
    subst (λ (v : HomeVerdict). Follows d c.accept.result (judged h r c.args.held v)) (sym c.in-Accept.is)
    (subst (λ (b : HomeBinding). Follows d c.accept.result (accepts h r c.args.held c.in-Accept.home b c.in-Accept.granted)) c.binding_for-binding.ensures
    (c.accept.ensures.shows claim c.args.held c.holding_by-holding.ensures))
