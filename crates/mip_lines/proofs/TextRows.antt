-- A text as rows: it has one at least, one more row comes first, and what stands behind the last line end.
use Rattle.std.proofs.Common.{◌≡◌, ℕ, ◌<◌, List, [], ◌∷◌, length, Bool, true, false, cond, refl, sym, ap, subst, arith}
use Rattle.std.specs.Prelude.{map, ◌==◌}
use Rattle.std.specs.List.{slice_split, onto_first}
use Rattle.std.proofs.lemmas.Bool.{eqb-false}
use Rattle.std.proofs.lemmas.List.Splits.{length-slice_split}
use Rattle.mip_lines.specs.Cutting.{parts, fields_of, rows_of}

shape : (xs : List (List ℕ)) → 0 < length xs → (first : List ℕ) × (rest : List (List ℕ)) × (xs ≡ first ∷ rest)
shape [] long = absurd (omega arith)
shape (x ∷ xs) long = (x, xs, refl)

-- a text has a part at least
some_part : (c : ℕ) (bytes : List ℕ) → (first : List ℕ) × (rest : List (List ℕ)) × (parts c bytes ≡ first ∷ rest)
unfolding parts
some_part c bytes = shape (slice_split (λ b. b == c) bytes) (omega (arith, length-slice_split (λ b. b == c) bytes))

-- a text has a row at least
pub some_row : (text : List ℕ) → (row : List (List ℕ)) × (rows : List (List (List ℕ))) × (rows_of text ≡ row ∷ rows)
some_row text =
    let p = some_part 10 text in
    (fields_of p.0, map fields_of p.1, ap (map fields_of) p.2)

pub rows_step : (text row more : List ℕ) → parts 10 text ≡ row ∷ parts 10 more → rows_of text ≡ fields_of row ∷ rows_of more
rows_step text row more e = ap (map fields_of) e

-- a text that has no line end is one row
pub rows_end : (text : List ℕ) → parts 10 text ≡ text ∷ [] → rows_of text ≡ fields_of text ∷ []
rows_end text e = ap (map fields_of) e

-- what stands behind the last line end of a whole text
abbrev pub end_row : List (List ℕ)
end_row = [] ∷ []

-- an empty line has one field, which is empty
pub empty_line : (line : List ℕ) → length line ≡ 0 → fields_of line ≡ [] ∷ []
unfolding parts
empty_line [] none = refl
empty_line (c ∷ line) none = absurd (omega arith)

-- what is said of each line but the empty one is said of a line of some bytes
pub full_line : {A : Type 0} (said : List (List ℕ) → A) (x : A) → ((c : ℕ) (field : List ℕ) (fields : List (List ℕ)) → said ((c ∷ field) ∷ fields) ≡ x) → ((field : List ℕ) (fields : List (List ℕ)) → said ([] ∷ field ∷ fields) ≡ x)
    → (line : List ℕ) → 0 < length line → said (fields_of line) ≡ x
unfolding parts
full_line said x begun spaced [] some = absurd (omega arith)
full_line said x begun spaced (c ∷ line) some =
    let p = some_part 32 line in
    subst (λ (rest : List (List ℕ)). said (cond (c == 32) ([] ∷ rest) (onto_first c rest)) ≡ x) (sym p.2) (by (c == 32) p.0 p.1)
  where
    by : (b : Bool) (first : List ℕ) (rest : List (List ℕ)) → said (cond b ([] ∷ first ∷ rest) (onto_first c (first ∷ rest))) ≡ x
    by true first rest = spaced first rest
    by false first rest = begun c first rest

pub not_zero : (n : ℕ) → (n == 0) ≡ false → 0 < n
not_zero n e = grind (arith, eqb-false)
