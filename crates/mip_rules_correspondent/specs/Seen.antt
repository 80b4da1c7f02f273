-- A correspondent as contracts see it: what it was made with, and what it knows.
use Rattle.std.specs.Prelude.{ℕ}
use Rattle.mip_rules_correspondent.specs.declared.identity.Identity.{Identity}
use Rattle.mip_rules_correspondent.specs.declared.known.Known.{Known}
use Rattle.mip_rules_correspondent.specs.Calls.{Call}
use Rattle.mip_rules_correspondent.specs.Transitions.{Transition}
use Rattle.mip_rules_correspondent.specs.Doing.{transition_of}

pub record CorrespondentSeen : Type 0 where
  pub identity : Identity
  pub known : Known

-- the transition that a call is to it
abbrev pub transition_at : CorrespondentSeen → ℕ → Call → Transition
transition_at c now call = transition_of c.identity c.known now call

-- and what the call makes of it
abbrev pub called : CorrespondentSeen → ℕ → Call → CorrespondentSeen
called c now call = record { identity = c.identity; known = (transition_at c now call).known }
