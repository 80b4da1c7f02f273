-- Laws and invariants of Listed: only proofs stand on them.
use Rattle.std.specs.Prelude.{◌≡◌, ℕ, ◌<◌, ◌⊎◌, List, [], ◌∷◌, Option, Some, None, if◌then◌else◌, ◌==◌}
use Rattle.std.specs.List.{AllByRecursion}
use Rattle.mip_words.specs.Last.{last_where}
use Rattle.mip_discovery.specs.declared.agent.Agent.{Agent}
use Rattle.mip_discovery.specs.Heard.{Heard, agent_of, is_live}
use Rattle.mip_discovery.specs.Listed.{Listed}

-- x stands before y: it has the greater preference, or the same and arrived earlier
abbrev pub IsBefore : Listed → Listed → Type 0
IsBefore x y = (y.agent.preference < x.agent.preference) ⊎ ((y.agent.preference ≡ x.agent.preference) × (x.arrived < y.arrived))

-- each item stands before all that follow it
abbrev pub InOrder : {X : Type 0} → (X → X → Type 0) → List X → Type 0
InOrder R [] = Unit {0}
InOrder R (x ∷ xs) = AllByRecursion (λ y. R x y) xs × InOrder R xs

-- the agent of an address as it was last heard, where its life is not over
abbrev pub live_as : ℕ → Option Heard → List Agent
live_as now None = []
live_as now (Some h) = if is_live now (agent_of h) then agent_of h ∷ [] else []

abbrev pub last_heard : ℕ → List Heard → Option Heard
last_heard address past = last_where (λ h. h.agent.0 == address) past
