-- The lines of a text, each with its line end.
use Rattle.std.specs.Prelude.{ℕ, List, [], ◌∷◌, ◌++◌, ◌==◌, if◌then◌else◌}
use Rattle.std.specs.List.{onto_first}

-- what stands behind the last line end is a line too, if anything stands there
unfoldable pub lines_of : List ℕ → List (List ℕ)
lines_of [] = []
lines_of (c ∷ rest) = if c == 10 then (10 ∷ []) ∷ lines_of rest else onto_first c (lines_of rest)

-- lines, one behind the other
unfoldable pub joined : List (List ℕ) → List ℕ
joined [] = []
joined (line ∷ lines) = line ++ joined lines
