-- The claims that the steps of an agent leave in its place: those of its entries.
use Rattle.std.specs.Prelude.{ℕ, List, fold, Bool, true}
use Rattle.mip_outside.specs.Places.{with_claim, without_claim}
use Rattle.mip_rules_agent.specs.Steps.{Step, Claims, Releases}

abbrev pub claims_after : Step → (ℕ → Bool) → ℕ → Bool
claims_after (Claims home) claims = with_claim true home.0 claims
claims_after (Releases home) claims = without_claim home.0 claims
claims_after _ claims = claims

abbrev pub claims_by : List Step → (ℕ → Bool) → ℕ → Bool
claims_by steps claims = fold (λ claims step. claims_after step claims) claims steps
