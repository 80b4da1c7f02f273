use Rattle.std.proofs.Common.{rules, List, ap, sym, subst, ◌∙◌}
use Rattle.std.specs.Prelude.{true, ◌≡◌, ◌⊎◌}
use Rattle.std.specs.List.{list_any}
use Rattle.mip_entries.specs.declared.answer.Answer.{Answer}
use Rattle.mip_rules_agent.specs.Known.{Known}
use Rattle.mip_rules_agent.specs.Calls as calls
use Rattle.mip_rules_agent.specs.Calls.{Call, claim_for}
use Rattle.mip_rules_agent.specs.Transitions.{Stands, with_transition}
use Rattle.mip_rules_agent.specs.Seen.{AgentSeen, transition_at}
use Rattle.mip_rules_agent.proofs.Calls.{call-stands}
use Rattle.mip_rules_agent.proofs.Moments.{call-last}
use Rattle.mip_rules_agent.specs.Questions.{careof_at}
use Rattle.mip_rules_agent.specs.TakenLaws.{IsRegisteredBy}
use Rattle.mip_rules_agent.proofs.HomeLaws.{careof-changes}
use Rattle.mip_rules_agent.proofs.Refusals.{refused-call}
use Rattle.mip_rules_agent.specs.Refusing.{KeepsTables}
use Rattle.mip_rules_agent.specs.Claims.{claims_by}
use Rattle.mip_reception.specs.Refusing.{refuses}
use Rattle.mip_homeagent.specs.Changes.{unclaimed, with_change, claims_with}
use Rattle.mip_homeagent.specs.Showing.{Shows, opened}
use Rattle.mip_homeagent.proofs.Befores.{claims_told, unchanged}
use Rattle.mip_homeagent.proofs.CallTransitions.{Ends, ends_shown, take_shown}
use Rattle.mip_homeagent.proofs.agent.HomeAgent.take.Given.{Over}
use Rattle.mip_homeagent.proofs.agent.HomeAgent.take.Goals as goal

abbrev call : (g : Over) → goal.After-apply_change g → Call
call g c = calls.Take c.args.number c.args.shield c.args.packet.now (claim_for (g.P.Place.around c.args.place.now) c.args.packet.now)

ended : (g : Over) (c : goal.After-apply_change g) → Ends c.args.self.now (record { identity = c.self.inside.identity; known = c.apply_change.new.self }) c.in_ok-response.response.answers c.args.now.0 (call g c) (claims_with c.in_ok-response.response.change)
ended g c =
    let now = c.args.now.0 in
    let inside : AgentSeen = record { identity = c.self.inside.identity; known = c.self.inside.known } in
    let change = c.in_ok-response.response.change in
    let leads = c.in_ok-response.ensures.shows in
    let shows = subst (λ (s : AgentSeen). Shows now (with_change change (opened now s.known)) (claims_with change) c.in_ok-response.response.answers (transition_at s now (call g c))) c.self.view_is
    (take_shown inside now c.args.number c.args.shield c.args.packet.now (claim_for (g.P.Place.around c.args.place.now) c.args.packet.now) change c.in_ok-response.response.answers leads) in
    ends_shown c.args.self.now (record { identity = c.self.inside.identity; known = c.apply_change.new.self }) now (call g c) (with_change change (opened now c.args.self.now.known)) (claims_with change) c.in_ok-response.response.answers shows
    (ap (λ (k : Known). record { identity = inside.identity; known = k }) c.apply_change.ensures ∙ ap (λ (s : AgentSeen). record { identity = s.identity; known = with_change change (opened now s.known) }) c.self.view_is)

pub returns-clause-answers : goal.returns-clause-answers
returns-clause-answers g c = (ended g c).answered

pub returns-clause-after : goal.returns-clause-after
returns-clause-after g c = (ended g c).after

pub returns-clause-stands : goal.returns-clause-stands
returns-clause-stands g c = λ serves past stands.
    let s = c.args.self.now in
    subst (λ (k : Known). Stands serves (with_transition past (transition_at s c.args.now.0 (call g c))) k) (sym (ap (λ (s : AgentSeen). s.known) (ended g c).after))
    (call-stands serves past s.known c.args.now.0 s.identity (call g c) stands)

pub returns-clause-place : goal.returns-clause-place
returns-clause-place g c = record {
  claims = c.in_ok-response.ensures.place.claims ∙ claims_told (g.P.Place.claims c.args.place.now) _ _ (ended g c).claimed;
  left = search rules;
  around = search rules;
  same = search rules;
}

pub returns-clause-last : goal.returns-clause-last
returns-clause-last g c =
    let s = c.args.self.now in
    ap (λ (s : AgentSeen). s.known.last) (ended g c).after ∙ call-last s.identity s.known c.args.now.0 (call g c)

pub returns-clause-refused : goal.returns-clause-refused
returns-clause-refused g c = λ told.
    let s = c.args.self.now in
    let claim = claim_for (g.P.Place.around c.args.place.now) c.args.packet.now in
    let keeps = refused-call s.identity s.known c.args.now.0 c.args.number c.args.shield c.args.packet.now claim (subst (λ (l : List Answer). list_any refuses l ≡ true) (ended g c).answered told) in (
      subst (λ (s' : AgentSeen). KeepsTables s.known s'.known) (sym (ended g c).after) keeps.0,
      c.in_ok-response.ensures.place.claims ∙ claims_told (g.P.Place.claims c.args.place.now) _ _ (ended g c).claimed ∙ claims_told (g.P.Place.claims c.args.place.now) (claims_by (transition_at s c.args.now.0 (call g c)).steps) unclaimed (λ claims. sym (keeps.1 claims)) ∙ sym (unchanged (g.P.Place.claims c.args.place.now)),
    )

pub returns-clause-registered : goal.returns-clause-registered
returns-clause-registered g c = λ home later.
    let s = c.args.self.now in
    let changes = careof-changes s.identity s.known c.args.now.0 home (call g c) later in
    subst (λ (a : AgentSeen). (careof_at a.known later home ≡ careof_at s.known later home) ⊎ IsRegisteredBy s.identity s.known c.args.now.0 (call g c) home) (sym (ended g c).after) changes
