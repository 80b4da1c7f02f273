use Rattle.std.proofs.Common.{[], ap, sym, subst, ◌∙◌}
use Rattle.mip_rules_agent.specs.Known.{Known}
use Rattle.mip_rules_agent.specs.Calls as calls
use Rattle.mip_rules_agent.specs.Calls.{Call}
use Rattle.mip_rules_agent.specs.Transitions.{Stands, with_transition}
use Rattle.mip_rules_agent.specs.Seen.{AgentSeen, transition_at}
use Rattle.mip_rules_agent.proofs.Calls.{call-stands}
use Rattle.mip_rules_agent.proofs.Moments.{call-last}
use Rattle.mip_homeagent.specs.Changes.{unclaimed}
use Rattle.mip_homeagent.specs.Endings.{heard_at}
use Rattle.mip_homeagent.proofs.CallTransitions.{Ends, ends_shown, hear_shown}
use Rattle.mip_homeagent.proofs.agent.HomeAgent.heard.Goals as goal

ended : (c : goal.In_ok-hear) → Ends c.args.self.now (record { identity = c.self.inside.identity; known = c.hear.new.self }) [] c.args.now.0 (calls.Hear c.args.agent c.args.preference c.args.life) unclaimed
ended c =
    let now = c.args.now.0 in
    let call = calls.Hear c.args.agent c.args.preference c.args.life in
    ends_shown c.args.self.now (record { identity = c.self.inside.identity; known = c.hear.new.self }) now call (heard_at now call c.args.self.now.known) unclaimed []
    (hear_shown c.args.self.now now c.args.agent c.args.preference c.args.life)
    (ap (λ (k : Known). record { identity = c.self.inside.identity; known = k }) c.in_ok-hear.ensures.ok ∙ ap (λ (s : AgentSeen). record { identity = s.identity; known = heard_at now call s.known }) c.self.view_is)

pub returns-clause-after : goal.returns-clause-after
returns-clause-after c = (ended c).after

pub returns-clause-stands : goal.returns-clause-stands
returns-clause-stands c = λ serves past stands.
    let s = c.args.self.now in
    subst (λ (k : Known). Stands serves (with_transition past (transition_at s c.args.now.0 (calls.Hear c.args.agent c.args.preference c.args.life))) k) (sym (ap (λ (s : AgentSeen). s.known) (ended c).after))
    (call-stands serves past s.known c.args.now.0 s.identity (calls.Hear c.args.agent c.args.preference c.args.life) stands)

pub returns-clause-last : goal.returns-clause-last
returns-clause-last c =
    let s = c.args.self.now in
    ap (λ (s : AgentSeen). s.known.last) (ended c).after ∙ call-last s.identity s.known c.args.now.0 (calls.Hear c.args.agent c.args.preference c.args.life)
