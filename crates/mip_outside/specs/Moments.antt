-- The answers that a clock is to give. The last one stands for all later ones.
use Rattle.std.specs.Prelude.{◌≡◌, ℕ, ◌<◌, ◌≤◌, ◌^◌, List, [], ◌∷◌, ⊤}

-- the next answer
abbrev pub IsAnswer : List ℕ → ℕ → Type 0
IsAnswer [] answer = ⊤
IsAnswer (moment ∷ moments) answer = answer ≡ moment

-- what is to come after the next answer
abbrev pub moments_after : List ℕ → List ℕ
moments_after [] = []
moments_after (moment ∷ []) = moment ∷ []
moments_after (moment ∷ next ∷ moments) = next ∷ moments

-- a clock whose last answer was `last` may give these: at least one, none before the one ahead of it,
-- and each below 2 ^ 62
abbrev pub AreMoments : ℕ → List ℕ → Type 0
AreMoments last [] = ⊥
AreMoments last (moment ∷ []) = (last ≤ moment) × (moment < 2 ^ 62)
AreMoments last (moment ∷ next ∷ moments) = (last ≤ moment) × (moment < 2 ^ 62) × AreMoments moment (next ∷ moments)

-- what a clock in memory stands for
pub record Moments : Type 0 where
  pub last : ℕ
  pub ahead : List ℕ
