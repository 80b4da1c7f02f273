-- A text cut into lines, and a line into fields.
use Rattle.std.specs.Prelude.{ℕ, ◌==◌, List, map}
use Rattle.std.specs.Borrow.{Bor}
use Rattle.std.specs.List.{slice_split}

-- the parts between the bytes c: as many as there are of these, and one more
unfoldable pub parts : ℕ → List ℕ → List (List ℕ)
parts c bytes = slice_split (λ b. b == c) bytes

-- the fields of a line lie between single spaces
abbrev pub fields_of : List ℕ → List (List ℕ)
fields_of line = parts 32 line

-- the lines of a text, each cut into its fields; the last is what stands behind the last line end
abbrev pub rows_of : List ℕ → List (List (List ℕ))
rows_of text = map fields_of (parts 10 text)

-- fields in memory, as lists of bytes
abbrev pub texts : List (Bor (List ℕ)) → List (List ℕ)
texts fields = map (λ (f : Bor (List ℕ)). f.now) fields
