use Rattle.std.proofs.Common.{ℕ, sym, subst, ap, ◌∙◌, rules}
use Rattle.std.specs.Prelude.{List, Option, Result}
use Rattle.std.proofs.lemmas.Result.{IfOk-weaker}
use Rattle.mip_ipv6.specs.Packet.{packet as tree}
use Rattle.mip_mobhdr.specs.Said.{Said}
use Rattle.mip_reception.specs.declared.refusal.Refusal.{Refusal}
use Rattle.mip_reception.specs.declared.address_match.AddressMatch.{AddressMatch}
use Rattle.mip_reception.specs.Checks.{checked}
use Rattle.mip_rules_agent.specs.Rules.{after_checks, place_in}
use Rattle.mip_homeagent.specs.Changes.{unclaimed, with_change, claims_made}
use Rattle.mip_entries.specs.declared.answer.Answer.{Answer}
use Rattle.mip_homeagent.specs.Showing.{Shows, opened}
use Rattle.mip_homeagent.specs.Contexts.{handing_at, claim_of}
use Rattle.mip_homeagent.proofs.Befores.{unchanged}
use Rattle.mip_homeagent.proofs.receiving.take_own.Goals as goal

pub returns-in_ok-refuse-in-Err-clause-place : goal.returns-in_ok-refuse-in-Err-clause-place
returns-in_ok-refuse-in-Err-clause-place g c = record { claims = unchanged (g.P.Place.claims c.args.place.now); left = search rules; around = search rules; same = search rules }

pub returns-in_ok-refuse-in-Err-clause-shows : goal.returns-in_ok-refuse-in-Err-clause-shows
returns-in_ok-refuse-in-Err-clause-shows g c = λ t shows.
    let d = c.args.context.now in
    let now = d.moment.0 in
    let k = opened now d.known.now in
    let begins = subst (λ (l : List Answer). Shows now k unclaimed l t) (sym c.in_ok-answers-in-Err.ensures) shows in
    let p = tree c.args.packet.now in
    let h = handing_at d (claim_of (g.P.Place.around c.args.place.now) p.head) in
    subst (λ (r : Result (Option Said) Refusal). Shows now k unclaimed c.refuse.new.answers (after_checks h p r t))
    (sym c.in-Err.ensures.exact ∙ ap (λ (n : ℕ). checked c.standing.result n p) c.requires.read.placed ∙ ap (λ (s : AddressMatch). checked s (place_in d.bytes.now p) p) c.standing.ensures)
    (c.in_ok-refuse-in-Err.ensures (claim_of (g.P.Place.around c.args.place.now) p.head) now k unclaimed t begins)

pub returns-in-Ok-clause-shows : goal.returns-in-Ok-clause-shows
returns-in-Ok-clause-shows g c =
    let d = c.args.context.now in
    let now = d.moment.0 in
    let k = opened now d.known.now in
    let p = tree c.args.packet.now in
    let h = handing_at d (claim_of (g.P.Place.around c.args.place.now) p.head) in
    IfOk-weaker c.answer_role.result _ _ (λ response leads t shows.
    subst (λ (r : Result (Option Said) Refusal). Shows now (with_change response.change k) (claims_made response) response.answers (after_checks h p r t))
    (sym c.in-Ok.ensures.exact ∙ ap (λ (n : ℕ). checked c.standing.result n p) c.requires.read.placed ∙ ap (λ (s : AddressMatch). checked s (place_in d.bytes.now p) p) c.standing.ensures)
    (leads t shows)) c.answer_role.ensures.shows
