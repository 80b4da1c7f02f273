-- Laws and invariants of Steps: only proofs stand on them.
use Rattle.std.specs.Prelude.{Bool, true, false}
use Rattle.mip_rules_agent.specs.Steps.{Step}
use Rattle.mip_rules_agent.specs.Steps.Step.{Registers}

-- a home registration that was accepted, or a deregistration
abbrev pub is_registration : Step → Bool
is_registration (Registers number home binding) = true
is_registration _ = false
