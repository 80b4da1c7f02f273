-- Pasts whose moments do not fall.
use Rattle.std.specs.Prelude.{ℕ, ◌≤◌, List, [], ◌∷◌}
use Rattle.mip_entries.specs.Stamped.{Stamped}

-- moments do not fall, from this one on
abbrev pub RisesFrom : {S : Type 0} → ℕ → List (Stamped S) → Type 0
RisesFrom at [] = Unit {0}
RisesFrom at (s ∷ past) = (at ≤ s.at) × RisesFrom s.at past

-- the moment of the last step; this one where there is none
abbrev pub last_at : {S : Type 0} → ℕ → List (Stamped S) → ℕ
last_at from [] = from
last_at from (s ∷ past) = last_at s.at past
