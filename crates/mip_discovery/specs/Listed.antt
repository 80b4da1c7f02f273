-- The list of agents that advertisements leave, each agent with the number of the advertisement by which it arrived;
-- and what a list in memory stands for.
use Rattle.std.specs.Prelude.{◌≡◌, ℕ, ◌+◌, List, [], map, fold}
use Rattle.std.specs.List.{filter}
use Rattle.mip_discovery.specs.declared.agent.Agent.{Agent}
use Rattle.mip_discovery.specs.Heard.{Heard, agent_of, is_live, after_by}

pub record Listed : Type 0 where
  pub agent : Agent
  -- the number of the advertisement by which it arrived, counted from 0
  pub arrived : ℕ

-- how many advertisements were heard, and the agents that they leave
pub record Ledger : Type 0 where
  pub heard : ℕ
  pub agents : List Listed

abbrev pub heard_by : Ledger → Heard → Ledger
heard_by l h = record {
  heard = l.heard + 1;
  agents = after_by (λ x. x.agent) (λ a x. record { agent = a; arrived = x.arrived }) h.at (agent_of h) (record { agent = agent_of h; arrived = l.heard }) l.agents;
}

abbrev pub ledger : List Heard → Ledger
ledger past = fold heard_by (record { heard = 0; agents = [] }) past

-- the agents that these advertisements, oldest first, leave
unfoldable pub listed : List Heard → List Listed
listed past = (ledger past).agents

-- what a contract sees of a list: the last moment that a change was given, and the agents
pub record AgentsSeen : Type 0 where
  pub last : ℕ
  pub agents : List Agent

-- the list in memory holds the agents that these advertisements leave
unfoldable pub StandsFor : AgentsSeen → List Heard → Type 0
StandsFor seen past = seen.agents ≡ map (λ x. x.agent) (listed past)

-- those that are live, in order
abbrev pub live_listed : ℕ → List Heard → List Listed
live_listed now past = filter (λ x. is_live now x.agent) (listed past)
