use Rattle.std.proofs.Common.{List, ap, sym, subst, ◌∙◌}
use Rattle.mip_rules_agent.specs.Known.{Known}
use Rattle.mip_rules_agent.specs.Calls as calls
use Rattle.mip_rules_agent.specs.Calls.{Call}
use Rattle.mip_rules_agent.specs.Transitions.{Stands, with_transition}
use Rattle.mip_rules_agent.specs.Seen.{AgentSeen, transition_at}
use Rattle.mip_rules_agent.proofs.Calls.{call-stands}
use Rattle.mip_rules_agent.proofs.Moments.{call-last}
use Rattle.mip_entries.specs.declared.answer.Answer.{Answer}
use Rattle.mip_homeagent.specs.Changes.{unclaimed}
use Rattle.mip_homeagent.specs.Showing.{Shows}
use Rattle.mip_homeagent.specs.Endings.{planned_at}
use Rattle.mip_homeagent.proofs.CallTransitions.{Ends, ends_shown, plan_shown}
use Rattle.mip_homeagent.proofs.agent.HomeAgent.plan.Goals as goal

ended : (c : goal.After-set_plan) → Ends c.args.self.now (record { identity = c.self.inside.identity; known = c.set_plan.new.self }) c.in_ok-answers.answers c.args.now.0 (calls.Plan c.args.valid c.args.preferred) unclaimed
ended c =
    let now = c.args.now.0 in
    let call = calls.Plan c.args.valid c.args.preferred in
    let inside : AgentSeen = record { identity = c.self.inside.identity; known = c.self.inside.known } in
    let shows = subst (λ (l : List Answer). Shows now (planned_at now (record { valid = c.args.valid; preferred = c.args.preferred; since = record { 0 = c.args.now.0 } }) inside.known) unclaimed l (transition_at inside now call)) (sym c.in_ok-answers.ensures)
    (plan_shown inside now c.args.valid c.args.preferred) in
    ends_shown c.args.self.now (record { identity = c.self.inside.identity; known = c.set_plan.new.self }) now call (planned_at now (record { valid = c.args.valid; preferred = c.args.preferred; since = record { 0 = c.args.now.0 } }) c.args.self.now.known) unclaimed c.in_ok-answers.answers
    (subst (λ (s : AgentSeen). Shows now (planned_at now (record { valid = c.args.valid; preferred = c.args.preferred; since = record { 0 = c.args.now.0 } }) s.known) unclaimed c.in_ok-answers.answers (transition_at s now call)) c.self.view_is shows)
    (ap (λ (k : Known). record { identity = c.self.inside.identity; known = k }) c.set_plan.ensures ∙ ap (λ (s : AgentSeen). record { identity = s.identity; known = planned_at now (record { valid = c.args.valid; preferred = c.args.preferred; since = record { 0 = c.args.now.0 } }) s.known }) c.self.view_is)

pub returns-clause-answers : goal.returns-clause-answers
returns-clause-answers c = (ended c).answered

pub returns-clause-after : goal.returns-clause-after
returns-clause-after c = (ended c).after

pub returns-clause-stands : goal.returns-clause-stands
returns-clause-stands c = λ serves past stands.
    let s = c.args.self.now in
    subst (λ (k : Known). Stands serves (with_transition past (transition_at s c.args.now.0 (calls.Plan c.args.valid c.args.preferred))) k) (sym (ap (λ (s : AgentSeen). s.known) (ended c).after))
    (call-stands serves past s.known c.args.now.0 s.identity (calls.Plan c.args.valid c.args.preferred) stands)

pub returns-clause-last : goal.returns-clause-last
returns-clause-last c =
    let s = c.args.self.now in
    ap (λ (s : AgentSeen). s.known.last) (ended c).after ∙ call-last s.identity s.known c.args.now.0 (calls.Plan c.args.valid c.args.preferred)
