-- Lines as they are written.
use Rattle.std.specs.Prelude.{ℕ, List, [], ◌∷◌, ◌++◌}
use Rattle.std.specs.List.{flat_map}

-- fields behind the first, each after a space
abbrev pub spaced : List (List ℕ) → List ℕ
spaced fields = flat_map (λ field. 32 ∷ field) fields

-- a line: its fields between single spaces, and a line end
unfoldable pub line_text : List (List ℕ) → List ℕ
line_text [] = 10 ∷ []
line_text (field ∷ fields) = field ++ (spaced fields ++ 10 ∷ [])

-- lines one after another
abbrev pub lines_text : List (List (List ℕ)) → List ℕ
lines_text rows = flat_map line_text rows
