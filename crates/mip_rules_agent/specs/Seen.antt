-- A home agent as contracts see it: what it was made with, and what it knows.
use Rattle.std.specs.Prelude.{ℕ}
use Rattle.mip_rules_agent.specs.declared.identity.Identity.{Identity}
use Rattle.mip_rules_agent.specs.Known.{Known}
use Rattle.mip_rules_agent.specs.Calls.{Call}
use Rattle.mip_rules_agent.specs.Transitions.{Transition}
use Rattle.mip_rules_agent.specs.Doing.{transition_of}

pub record AgentSeen : Type 0 where
  pub identity : Identity
  pub known : Known

-- the transition that a call is to it
abbrev pub transition_at : AgentSeen → ℕ → Call → Transition
transition_at a now call = transition_of a.identity a.known now call

-- and what the call makes of it
abbrev pub called : AgentSeen → ℕ → Call → AgentSeen
called a now call = record { identity = a.identity; known = (transition_at a now call).known }
