use Rattle.std.proofs.Common.{rules, false, sym, subst, ap, ◌∙◌}
use Rattle.std.proofs.lemmas.Result.{IfOk-weaker}
use Rattle.std.specs.Option.{option_map}
use Rattle.mip_words.specs.declared.address.Address.{Address}
use Rattle.mip_reception.specs.Registrations.{home_of}
use Rattle.mip_outside.specs.declared.claim.Claim.{Claim}
use Rattle.mip_outside.specs.Places.{is_held, with_claim, claim_in}
use Rattle.mip_rules_agent.specs.declared.home_verdict.HomeVerdict.{HomeVerdict}
use Rattle.mip_rules_agent.specs.Verdicts.{by_claim}
use Rattle.mip_rules_agent.specs.Rules.{judged}
use Rattle.mip_homeagent.specs.Changes.{claims_held, holding_by}
use Rattle.mip_homeagent.specs.Contexts.{handing_at, Follows}
use Rattle.mip_homeagent.proofs.Befores.{claims_given, claims_denied}
use Rattle.mip_homeagent.proofs.update.claim_home.Goals as goal

pub returns-then-is_held-clause-place : goal.returns-then-is_held-clause-place
returns-then-is_held-clause-place g c =
    let r = c.args.update.now.registration.now in
    let old = g.P.Place.claims c.args.place.now in
    record {
      claims = claims_given c.args.bench.now r c.in_ok-response.response.change c.claim-claim.result (home_of r) old (g.P.Place.claims c.claim-claim.new.self)
          (sym c.is_held.ensures ∙ c.if-is_held.true) c.requires.lasts
          (c.claim-claim.ensures.claims ∙ ap (λ (a : Address). option_map (with_claim (is_held c.claim-claim.result) a.0) old) c.home_of.ensures)
          (c.in_ok-response.ensures.claims ∙ ap (λ (v : HomeVerdict). claims_held (holding_by false r v) (home_of r)) c.by_claim-accepted.ensures);
      left = search rules;
      around = search rules;
      same = search rules;
    }

pub returns-else-is_held-clause-place : goal.returns-else-is_held-clause-place
returns-else-is_held-clause-place g c =
    let r = c.args.update.now.registration.now in
    let old = g.P.Place.claims c.args.place.now in
    let denied = sym c.is_held.ensures ∙ c.if-is_held.false in
    let is = c.claim-claim.ensures.claims ∙ ap (λ (a : Address). option_map (with_claim (is_held c.claim-claim.result) a.0) old) c.home_of.ensures in
    record {
      claims = IfOk-weaker c.deny_claim.result _ _ (λ response with.
          claims_denied c.args.bench.now r response.change c.claim-claim.result (home_of r) old (g.P.Place.claims c.claim-claim.new.self) denied is with)
          c.deny_claim.ensures.claims;
      left = search rules;
      around = search rules;
      same = search rules;
    }

pub returns-else-is_held-clause-shows : goal.returns-else-is_held-clause-shows
returns-else-is_held-clause-shows g c = λ asked.
    let d = c.args.update.now.context.now in
    let r = c.args.update.now.registration.now in
    let around = g.P.Place.around c.args.place.now in
    subst (λ (claim : Claim). Follows d c.deny_claim.result (judged (handing_at d asked) r false (by_claim c.args.bench.now r claim)))
    (c.claim-claim.ensures.answer ∙ ap (λ (a : Address). claim_in around a.0) c.home_of.ensures)
    (c.deny_claim.ensures.shows asked)
