-- Steps with their moments: the past of a node, oldest first.
use Rattle.std.specs.Prelude.{ℕ, List, map}

pub record Stamped (S : Type 0) : Type 0 where
  pub at : ℕ
  pub step : S

-- what was done at one moment
abbrev pub stamped : {S : Type 0} → ℕ → List S → List (Stamped S)
stamped at steps = map (λ step. record { at = at; step = step }) steps
