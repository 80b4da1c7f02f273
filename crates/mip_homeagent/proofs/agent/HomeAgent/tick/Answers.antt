use Rattle.std.proofs.Common.{rules, ◌≡◌, List, ap, sym, subst, ◌∙◌}
use Rattle.mip_rules_agent.specs.Known.{Known}
use Rattle.mip_rules_agent.specs.Calls as calls
use Rattle.mip_rules_agent.specs.Calls.{Call}
use Rattle.mip_rules_agent.specs.Transitions.{Stands, with_transition}
use Rattle.mip_rules_agent.specs.Seen.{AgentSeen, transition_at}
use Rattle.mip_rules_agent.proofs.Calls.{call-stands}
use Rattle.mip_rules_agent.specs.Questions.{careof_at}
use Rattle.mip_rules_agent.proofs.Moments.{call-last}
use Rattle.std.specs.Option.{option_map}
use Rattle.mip_entries.specs.declared.answer.Answer.{Answer}
use Rattle.mip_rules_agent.specs.declared.ending.Ending.{Ending}
use Rattle.mip_homeagent.specs.Showing.{Shows}
use Rattle.mip_homeagent.specs.Endings.{answers_released, claims_released, given_up}
use Rattle.mip_homeagent.proofs.Registers.{tick-careof}
use Rattle.mip_homeagent.proofs.Befores.{claims_told}
use Rattle.mip_homeagent.proofs.CallTransitions.{Ends, ends_shown, tick_shown}
use Rattle.mip_homeagent.proofs.agent.HomeAgent.tick.Given.{Over}
use Rattle.mip_homeagent.proofs.agent.HomeAgent.tick.Goals as goal

ended : (g : Over) (c : goal.After-drop-due-2 g) → Ends c.args.self.now (record { identity = c.self.inside.identity; known = c.give_up.new.self }) c.in_ok-answers.answers c.args.now.0 calls.Tick (claims_released c.in_ok-due.due.items)
ended g c =
    let now = c.args.now.0 in
    let inside : AgentSeen = record { identity = c.self.inside.identity; known = c.self.inside.known } in
    let shows = subst (λ (es : List Ending). Shows now (given_up now es inside.known) (claims_released es) (answers_released es) (transition_at inside now calls.Tick)) (sym c.in_ok-due.ensures) (tick_shown inside now) in
    let seen = subst (λ (s : AgentSeen). Shows now (given_up now c.in_ok-due.due.items s.known) (claims_released c.in_ok-due.due.items) (answers_released c.in_ok-due.due.items) (transition_at s now calls.Tick)) c.self.view_is shows in
    ends_shown c.args.self.now (record { identity = c.self.inside.identity; known = c.give_up.new.self }) now calls.Tick (given_up now c.in_ok-due.due.items c.args.self.now.known) (claims_released c.in_ok-due.due.items) c.in_ok-answers.answers
    (subst (λ (l : List Answer). Shows now (given_up now c.in_ok-due.due.items c.args.self.now.known) (claims_released c.in_ok-due.due.items) l (transition_at c.args.self.now now calls.Tick)) (sym (c.in_ok-answers.ensures ∙ ap answers_released c.deref.ensures.value)) seen)
    (ap (λ (k : Known). record { identity = inside.identity; known = k }) (c.give_up.ensures ∙ ap (λ (es : List Ending). given_up now es inside.known) c.deref-2.ensures.value) ∙ ap (λ (s : AgentSeen). record { identity = s.identity; known = given_up now c.in_ok-due.due.items s.known }) c.self.view_is)

pub returns-clause-answers : goal.returns-clause-answers
returns-clause-answers g c = (ended g c).answered

pub returns-clause-after : goal.returns-clause-after
returns-clause-after g c = (ended g c).after

pub returns-clause-place : goal.returns-clause-place
returns-clause-place g c = record {
  claims = c.release_all.ensures.claims ∙ ap (λ (es : List Ending). option_map (claims_released es) (g.P.Place.claims c.args.place.now)) c.deref-3.ensures.value ∙ claims_told (g.P.Place.claims c.args.place.now) _ _ (ended g c).claimed;
  left = search rules;
  around = search rules;
  same = search rules;
}

pub returns-clause-stands : goal.returns-clause-stands
returns-clause-stands g c = λ serves past stands.
    let s = c.args.self.now in
    subst (λ (k : Known). Stands serves (with_transition past (transition_at s c.args.now.0 (calls.Tick))) k) (sym (ap (λ (s : AgentSeen). s.known) (ended g c).after))
    (call-stands serves past s.known c.args.now.0 s.identity (calls.Tick) stands)

pub returns-clause-last : goal.returns-clause-last
returns-clause-last g c =
    let s = c.args.self.now in
    ap (λ (s : AgentSeen). s.known.last) (ended g c).after ∙ call-last s.identity s.known c.args.now.0 (calls.Tick)

pub returns-clause-registered : goal.returns-clause-registered
returns-clause-registered g c = λ home later.
    let s = c.args.self.now in
    subst (λ (a : AgentSeen). careof_at a.known later home ≡ careof_at s.known later home) (sym (ended g c).after) (tick-careof s.identity s.known c.args.now.0 home later)
