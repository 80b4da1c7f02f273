-- What a home agent refuses: a packet that is dropped, an update that is denied.
use Rattle.std.specs.Prelude.{◌≡◌, Bool, true, false}
use Rattle.mip_rules_agent.specs.Known.{Known}
use Rattle.mip_rules_agent.specs.Steps.{Step, Claims, Releases, Denies, Drops}

-- a packet is dropped, or the update in it denied
abbrev pub is_refusal : Step → Bool
is_refusal (Denies number status) = true
is_refusal (Drops number why) = true
is_refusal _ = false

-- an address is claimed, or given up
abbrev pub is_claim : Step → Bool
is_claim (Claims home) = true
is_claim (Releases home) = true
is_claim _ = false

-- no table is changed: homes with their registrations, the ends of these, the lifetimes of the prefix, the other agents
pub record KeepsTables (before after : Known) : Type 0 where
  pub homes : after.homes ≡ before.homes
  pub ends : after.ends ≡ before.ends
  pub plan : after.plan ≡ before.plan
  pub agents : after.agents ≡ before.agents
