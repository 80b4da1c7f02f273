use Rattle.std.proofs.Common.{sym, subst, ap, ◌∙◌}
use Rattle.std.specs.Prelude.{Option, IsTrue}
use Rattle.std.proofs.lemmas.Result.{IfOk-weaker}
use Rattle.mip_words.specs.declared.address.Address.{Address}
use Rattle.mip_ipv6.specs.Packet.{packet as tree, is_routable_if_any}
use Rattle.mip_mobhdr.specs.Said.{said}
use Rattle.mip_outside.specs.Places.{claim_in}
use Rattle.mip_reception.specs.declared.registration.Registration.{Registration}
use Rattle.mip_reception.specs.Registrations.{home_of}
use Rattle.mip_rules_agent.specs.Transitions.{Transition}
use Rattle.mip_rules_agent.specs.Rules.{takes_update}
use Rattle.mip_homeagent.specs.Changes.{with_change, claims_made}
use Rattle.mip_homeagent.specs.Showing.{Shows, opened}
use Rattle.mip_homeagent.specs.Contexts.{handing_at, claim_of}
use Rattle.mip_homeagent.proofs.Roles.{by_registration, role_is, said_home, room_served}
use Rattle.mip_homeagent.proofs.receiving.take_message.Goals as goal

pub invariant_of-update : goal.invariant_of-update
invariant_of-update g c =
    let head = c.args.packet.now.head in
    let is = said_home head.source head.home c.in-Some.registration (said c.args.message.now) (sym c.in-Some.is ∙ c.registration_of.ensures) in
    record { plain = subst (λ (o : Option Address). IsTrue (is_routable_if_any o)) (sym is.1) c.requires.plain }

pub take_update-requires : goal.take_update-requires
take_update-requires g c = λ served. room_served (g.P.Place.around c.args.place.now) c.args.context.now.known.now (home_of c.in-Some.registration) c.requires.room served

pub returns-in-Some-clause-shows : goal.returns-in-Some-clause-shows
returns-in-Some-clause-shows g c =
    let d = c.args.context.now in
    let now = d.moment.0 in
    let k = opened now d.known.now in
    let p = tree c.args.packet.now in
    let r = c.in-Some.registration in
    let m = said c.args.message.now in
    let around = g.P.Place.around c.args.place.now in
    let read = sym c.in-Some.is ∙ c.registration_of.ensures in
    let is = said_home p.head.source p.head.home r m read in
    let h = handing_at d (claim_of around p.head) in
    IfOk-weaker c.take_update.result _ _ (λ response leads t shows.
    subst (λ (u : Transition). Shows now (with_change response.change k) (claims_made response) response.answers u)
    (ap (λ (a : Address). takes_update (handing_at d (claim_in around a.0)) r t) is.0 ∙ ap (λ (o : Option Registration). by_registration h o t) read ∙ sym (role_is h p m t))
    (leads t shows)) c.take_update.ensures.shows

pub returns-in-None-clause-shows : goal.returns-in-None-clause-shows
returns-in-None-clause-shows g c =
    let d = c.args.context.now in
    let p = tree c.args.packet.now in
    let m = said c.args.message.now in
    let h = handing_at d (claim_of (g.P.Place.around c.args.place.now) p.head) in
    IfOk-weaker c.dropped.result _ _ (λ response leads t shows.
    subst (λ (u : Transition). Shows d.moment.0 (with_change response.change (opened d.moment.0 d.known.now)) (claims_made response) response.answers u)
    (ap (λ (o : Option Registration). by_registration h o t) (sym c.in-None.is ∙ c.registration_of.ensures) ∙ sym (role_is h p m t))
    (leads t shows)) c.dropped.ensures.shows
