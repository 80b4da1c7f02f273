use Rattle.std.proofs.Common.{Bool, true, sym, subst}
use Rattle.mip_outside.specs.Places.{claim_in}
use Rattle.mip_reception.specs.Registrations.{home_of}
use Rattle.mip_rules_agent.specs.declared.home_verdict.HomeVerdict.{HomeVerdict}
use Rattle.mip_rules_agent.specs.Verdicts.{by_claim}
use Rattle.mip_rules_agent.specs.Rules.{claim_with, judged}
use Rattle.mip_homeagent.specs.Contexts.{handing_at, Follows}
use Rattle.mip_homeagent.proofs.update.take_claim.Goals as goal

pub returns-then-held-clause-shows : goal.returns-then-held-clause-shows
returns-then-held-clause-shows g c = λ claim.
    let d = c.args.update.now.context.now in
    let r = c.args.update.now.registration.now in
    let around = claim_in (g.P.Place.around c.args.place.now) (home_of r).0 in
    subst (λ (held : Bool). Follows d c.conclude.result (judged (handing_at d claim) r held (by_claim c.args.bench.now r (claim_with held around)))) (sym c.if-held.true)
    (subst (λ (v : HomeVerdict). Follows d c.conclude.result (judged (handing_at d claim) r true v)) c.by_claim-verdict.ensures
    (c.conclude.ensures.shows claim))

pub returns-else-held-clause-shows : goal.returns-else-held-clause-shows
returns-else-held-clause-shows g c = λ claim.
    let d = c.args.update.now.context.now in
    let r = c.args.update.now.registration.now in
    let around = claim_in (g.P.Place.around c.args.place.now) (home_of r).0 in
    subst (λ (held : Bool). Follows d c.claim_home.result (judged (handing_at d claim) r held (by_claim c.args.bench.now r (claim_with held around)))) (sym c.if-held.false)
    (c.claim_home.ensures.shows claim)
