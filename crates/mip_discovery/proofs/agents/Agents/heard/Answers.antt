use Rattle.std.proofs.Common.{◌≡◌, ◌++◌, ◌∷◌, [], List, subst, rules}
use Rattle.mip_discovery.specs.declared.agent.Agent.{Agent}
use Rattle.mip_discovery.specs.Heard.{Heard, agent_of, after}
use Rattle.mip_discovery.specs.Listed.{StandsFor}
use Rattle.mip_discovery.proofs.ViewLaws.{stands_on}
use Rattle.mip_discovery.proofs.agents.Agents.heard.Goals as goal

pub returns-clause-stands : goal.returns-clause-stands
returns-clause-stands c =
    λ past stands.
    let h : Heard = record { at = c.args.now.0; agent = c.args.agent; preference = c.args.preference; life = c.args.life } in
    let list : after h.at (agent_of h) c.args.self.now.agents ≡ c.hear.new.agents.items = search rules in
    subst (λ (xs : List Agent). StandsFor (record { last = h.at; agents = xs }) (past ++ h ∷ [])) list (stands_on c.args.self.now past h stands)
