-- Laws and invariants of Walk: only proofs stand on them.
use Rattle.std.specs.Prelude.{ℕ, List, [], ◌∷◌}

-- what is seen after these options
abbrev pub seen_by : {S : Type 0} → (S → List ℕ → S) → S → List (List ℕ) → S
seen_by noted seen [] = seen
seen_by noted seen (o ∷ options) = seen_by noted (noted seen o) options
