-- What a home agent knows of its past.
use Rattle.std.specs.Prelude.{ℕ, List}
use Rattle.mip_discovery.specs.declared.plan.PrefixPlan.{PrefixPlan}
use Rattle.mip_discovery.specs.Listed.{AgentsSeen}
use Rattle.mip_rules_agent.specs.declared.served.Served.{Served}
use Rattle.mip_rules_agent.specs.declared.ending.Ending.{Ending}

pub record Known : Type 0 where
  -- the moment of the last call, 0 before the first
  pub last : ℕ
  -- the homes that it serves, in order of address
  pub homes : List Served
  -- when registrations end: by the moment, ties in the order in which they were accepted
  pub ends : List Ending
  -- the other home agents
  pub agents : AgentsSeen
  -- the lifetimes of its prefix
  pub plan : PrefixPlan
