-- Laws and invariants of Lines: only proofs stand on them.
use Rattle.std.specs.Prelude.{ℕ, List, [], ◌∷◌, Bool, false, not, ◌&&◌, ◌==◌}
use Rattle.std.specs.List.{list_all}

-- no space and no line end: what a field may be made of
abbrev pub is_plain : List ℕ → Bool
is_plain field = list_all (λ c. not (c == 32) && not (c == 10)) field

-- one field or more, each plain
abbrev pub is_row : List (List ℕ) → Bool
is_row [] = false
is_row (field ∷ fields) = list_all is_plain (field ∷ fields)
