use Rattle.std.proofs.Common.{sym, subst, ap, ◌∙◌}
use Rattle.std.specs.Prelude.{Option, Bool}
use Rattle.std.proofs.lemmas.Result.{IfOk-weaker}
use Rattle.mip_words.specs.declared.address.Address.{Address}
use Rattle.mip_outside.specs.Places.{claim_in}
use Rattle.mip_rules_agent.specs.Questions.{holds}
use Rattle.mip_rules_agent.specs.Transitions.{Transition}
use Rattle.mip_reception.specs.Registrations.{home_of}
use Rattle.mip_rules_agent.specs.declared.bench.Bench.{Bench}
use Rattle.mip_rules_agent.specs.declared.home_verdict.HomeVerdict.{HomeVerdict}
use Rattle.mip_rules_agent.specs.Verdicts.{with_claim, verdict}
use Rattle.mip_rules_agent.specs.Rules.{bench, claim_with, judged, takes_update}
use Rattle.mip_homeagent.specs.Changes.{with_change, claims_made}
use Rattle.mip_homeagent.specs.Showing.{Shows, opened}
use Rattle.mip_homeagent.specs.Contexts.{handing_at}
use Rattle.mip_homeagent.proofs.Befores.{before_some, before_none}
use Rattle.mip_homeagent.proofs.update.take_update.Goals as goal

pub conclude-requires-clause-home : goal.conclude-requires-clause-home
conclude-requires-clause-home g c =
    (before_some c.bench-bench.result c.args.update.now.context.now.shield c.args.update.now.registration.now c.holds-held.result c.in-Some.verdict (sym c.in-Some.is ∙ c.before_claim.ensures)).1

pub conclude-requires-clause-unclaimed : goal.conclude-requires-clause-unclaimed
conclude-requires-clause-unclaimed g c =
    (before_some c.bench-bench.result c.args.update.now.context.now.shield c.args.update.now.registration.now c.holds-held.result c.in-Some.verdict (sym c.in-Some.is ∙ c.before_claim.ensures)).0

pub take_claim-requires-clause-room : goal.take_claim-requires-clause-room
take_claim-requires-clause-room g c =
    let served = (before_none c.bench-bench.result c.args.update.now.context.now.shield c.args.update.now.registration.now c.holds-held.result (sym c.in-None.is ∙ c.before_claim.ensures)).0 in
    c.requires (sym (ap (λ (b : Bench). b.served) c.bench-bench.ensures) ∙ served)

pub take_claim-requires-clause-lasts : goal.take_claim-requires-clause-lasts
take_claim-requires-clause-lasts g c =
    (before_none c.bench-bench.result c.args.update.now.context.now.shield c.args.update.now.registration.now c.holds-held.result (sym c.in-None.is ∙ c.before_claim.ensures)).1

pub returns-in-Some-clause-shows : goal.returns-in-Some-clause-shows
unfolding takes_update verdict
returns-in-Some-clause-shows g c =
    let d = c.args.update.now.context.now in
    let r = c.args.update.now.registration.now in
    let now = d.moment.0 in
    let k = opened now d.known.now in
    let claim = claim_in (g.P.Place.around c.args.place.now) (home_of r).0 in
    let h = handing_at d claim in
    let held = c.holds-held.result in
    let b = c.bench-bench.result in
    IfOk-weaker c.conclude.result _ _ (λ response leads t shows.
    subst (λ (u : Transition). Shows now (with_change response.change k) (claims_made response) response.answers u)
    (ap (λ (o : Option HomeVerdict). judged h r held (with_claim b r (claim_with held claim) o) t) (sym c.in-Some.is ∙ c.before_claim.ensures)
    ∙ ap (λ (b' : Bench). judged h r held (verdict b' d.shield (claim_with held claim) r) t) c.bench-bench.ensures
    ∙ ap (λ (held' : Bool). judged h r held' (verdict (bench d.identity.now k now r) d.shield (claim_with held' claim) r) t) (c.holds-held.ensures ∙ ap (λ (a : Address). holds d.known.now a) c.home_of.ensures))
    (leads t shows)) (c.conclude.ensures.shows claim)

pub returns-in-None-clause-shows : goal.returns-in-None-clause-shows
unfolding takes_update verdict
returns-in-None-clause-shows g c =
    let d = c.args.update.now.context.now in
    let r = c.args.update.now.registration.now in
    let now = d.moment.0 in
    let k = opened now d.known.now in
    let claim = claim_in (g.P.Place.around c.args.place.now) (home_of r).0 in
    let h = handing_at d claim in
    let held = c.holds-held.result in
    let b = c.bench-bench.result in
    IfOk-weaker c.take_claim.result _ _ (λ response leads t shows.
    subst (λ (u : Transition). Shows now (with_change response.change k) (claims_made response) response.answers u)
    (ap (λ (o : Option HomeVerdict). judged h r held (with_claim b r (claim_with held claim) o) t) (sym c.in-None.is ∙ c.before_claim.ensures)
    ∙ ap (λ (b' : Bench). judged h r held (verdict b' d.shield (claim_with held claim) r) t) c.bench-bench.ensures
    ∙ ap (λ (held' : Bool). judged h r held' (verdict (bench d.identity.now k now r) d.shield (claim_with held' claim) r) t) (c.holds-held.ensures ∙ ap (λ (a : Address). holds d.known.now a) c.home_of.ensures))
    (leads t shows)) (c.take_claim.ensures.shows claim)
