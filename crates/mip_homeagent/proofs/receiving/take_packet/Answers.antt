use Rattle.std.proofs.Common.{sym, subst, ◌∙◌, rules}
use Rattle.std.specs.Prelude.{List, Option}
use Rattle.std.proofs.lemmas.Result.{IfOk-weaker}
use Rattle.mip_words.specs.declared.address.Address.{Address}
use Rattle.mip_ipv6.specs.Packet.{packet as tree}
use Rattle.mip_rules_agent.specs.Rules.{by_destination}
use Rattle.mip_homeagent.specs.Changes.{unclaimed, with_change, claims_made}
use Rattle.mip_entries.specs.declared.answer.Answer.{Answer}
use Rattle.mip_homeagent.specs.Showing.{Shows, opened}
use Rattle.mip_homeagent.specs.Contexts.{handing_at, claim_of}
use Rattle.mip_homeagent.proofs.Befores.{unchanged}
use Rattle.mip_homeagent.proofs.receiving.take_packet.Goals as goal

pub returns-in_ok-intercept-in-Some-clause-place : goal.returns-in_ok-intercept-in-Some-clause-place
returns-in_ok-intercept-in-Some-clause-place g c = record { claims = unchanged (g.P.Place.claims c.args.place.now); left = search rules; around = search rules; same = search rules }

pub returns-in_ok-intercept-in-Some-clause-shows : goal.returns-in_ok-intercept-in-Some-clause-shows
returns-in_ok-intercept-in-Some-clause-shows g c = λ t shows.
    let d = c.args.context.now in
    let now = d.moment.0 in
    let k = opened now d.known.now in
    let begins = subst (λ (l : List Answer). Shows now k unclaimed l t) (sym c.in_ok-answers-in-Some.ensures) shows in
    let p = tree c.args.packet.now in
    let claim = claim_of (g.P.Place.around c.args.place.now) p.head in
    subst (λ (o : Option Address). Shows now k unclaimed c.intercept.new.answers (by_destination (handing_at d claim) p o t))
    (sym c.in-Some.is ∙ c.careof.ensures.found) (c.in_ok-intercept-in-Some.ensures claim now k unclaimed t begins)

pub returns-in-None-clause-shows : goal.returns-in-None-clause-shows
returns-in-None-clause-shows g c =
    let d = c.args.context.now in
    let now = d.moment.0 in
    let k = opened now d.known.now in
    let p = tree c.args.packet.now in
    let claim = claim_of (g.P.Place.around c.args.place.now) p.head in
    IfOk-weaker c.take_own.result _ _ (λ response leads t shows.
    subst (λ (o : Option Address). Shows now (with_change response.change k) (claims_made response) response.answers (by_destination (handing_at d claim) p o t))
    (sym c.in-None.is ∙ c.careof.ensures.found) (leads t shows)) c.take_own.ensures.shows
