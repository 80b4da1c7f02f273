-- What is known of the lines of a text.
use Rattle.std.proofs.Common.{◌≡◌, ℕ, List, [], ◌∷◌, ◌++◌, length, true, false, refl, sym, ap, ◌∙◌, inl, inr, arith}
use Rattle.std.specs.Prelude.{◌==◌}
use Rattle.std.specs.List.{join_with_byte, onto_first}
use Rattle.std.proofs.lemmas.Bool.{cases_Bool, eqb-true}
use Rattle.std.proofs.lemmas.List.Splits.{join_with_byte-slice_split, length-slice_split}
use Rattle.mip_lines.specs.Cutting.{parts}
use Rattle.mip_audit.specs.Lines.{lines_of, joined}
use Rattle.mip_audit.proofs.Walks.{line_ended, line_goes_on}

pub no_lines : lines_of [] ≡ []
unfolding lines_of
no_lines = refl

no_parts : parts 10 [] ≡ [] ∷ []
unfolding parts
no_parts = refl

joined-onto : (c : ℕ) (lines : List (List ℕ)) → joined (onto_first c lines) ≡ c ∷ joined lines
unfolding joined
joined-onto c [] = refl
joined-onto c (line ∷ lines) = refl

-- the lines, one behind the other, are the text
pub joined-lines : (text : List ℕ) → joined (lines_of text) ≡ text
unfolding joined
joined-lines [] = ap joined no_lines
joined-lines (c ∷ rest) = elim (cases_Bool (c == 10)) as (λ _. joined (lines_of (c ∷ rest)) ≡ c ∷ rest) [
  | inl is ↦ ap joined (line_ended c rest is) ∙ ap (λ (l : List ℕ). 10 ∷ l) (joined-lines rest) ∙ ap (λ (x : ℕ). x ∷ rest) (sym (eqb-true c 10 is))
  | inr not ↦ ap joined (line_goes_on c rest not) ∙ joined-onto c (lines_of rest) ∙ ap (λ (l : List ℕ). c ∷ l) (joined-lines rest)
]

parts_ended : (c : ℕ) (rest : List ℕ) → (c == 10) ≡ true → parts 10 (c ∷ rest) ≡ [] ∷ parts 10 rest
unfolding parts
parts_ended c rest is = rw is refl

parts_go_on : (c : ℕ) (rest : List ℕ) → (c == 10) ≡ false → parts 10 (c ∷ rest) ≡ onto_first c (parts 10 rest)
unfolding parts
parts_go_on c rest not = rw not refl

joined_parts : (text : List ℕ) → join_with_byte 10 (parts 10 text) ≡ text
unfolding parts
joined_parts text = join_with_byte-slice_split 10 text

-- the parts of a text with a line end begin with its first line
first_part : (text line next : List ℕ) (others : List (List ℕ)) → parts 10 text ≡ line ∷ next ∷ others
    → lines_of text ≡ (line ++ 10 ∷ []) ∷ lines_of (join_with_byte 10 (next ∷ others))
first_part [] line next others e = absurd (let n = ap (λ (ps : List (List ℕ)). length ps) (sym no_parts ∙ e) in omega (arith, n))
first_part (c ∷ rest) line next others e = elim (cases_Bool (c == 10)) as (λ _. lines_of (c ∷ rest) ≡ (line ++ 10 ∷ []) ∷ lines_of (join_with_byte 10 (next ∷ others))) [
  | inl is ↦
      let split : [] ∷ parts 10 rest ≡ line ∷ next ∷ others = sym (parts_ended c rest is) ∙ e in
      line_ended c rest is
      ∙ ap (λ (t : List ℕ). (10 ∷ []) ∷ lines_of t) (sym (joined_parts rest) ∙ ap (join_with_byte 10) (ap behind split))
      ∙ ap (λ (l : List ℕ). (l ++ 10 ∷ []) ∷ lines_of (join_with_byte 10 (next ∷ others))) (ap first split)
  | inr not ↦ line_goes_on c rest not ∙ on (first_part rest) (parts 10 rest) refl (sym (parts_go_on c rest not) ∙ e)
]
  where
    first : List (List ℕ) → List ℕ
    first [] = []
    first (p ∷ ps) = p

    behind : List (List ℕ) → List (List ℕ)
    behind [] = []
    behind (p ∷ ps) = ps

    on : ((q p : List ℕ) (ps : List (List ℕ)) → parts 10 rest ≡ q ∷ p ∷ ps → lines_of rest ≡ (q ++ 10 ∷ []) ∷ lines_of (join_with_byte 10 (p ∷ ps)))
        → (ps : List (List ℕ)) → parts 10 rest ≡ ps → onto_first c ps ≡ line ∷ next ∷ others → onto_first c (lines_of rest) ≡ (line ++ 10 ∷ []) ∷ lines_of (join_with_byte 10 (next ∷ others))
    on below [] _ split = absurd (let n = ap (λ (qs : List (List ℕ)). length qs) split in omega (arith, n))
    on below (q ∷ []) _ split = absurd (let n = ap (λ (qs : List (List ℕ)). length qs) split in omega (arith, n))
    on below (q ∷ p ∷ ps) is split =
        ap (onto_first c) (below q p ps is)
        ∙ ap (λ (l : List ℕ). (l ++ 10 ∷ []) ∷ lines_of (join_with_byte 10 (p ∷ ps))) (ap first split)
        ∙ ap (λ (qs : List (List ℕ)). (line ++ 10 ∷ []) ∷ lines_of (join_with_byte 10 qs)) (ap behind split)

some_parts : (text : List ℕ) → parts 10 text ≡ [] → ⊥
unfolding parts
some_parts text none = let n = length-slice_split (λ b. b == 10) text in omega (arith, n, ap (λ (ps : List (List ℕ)). length ps) none)

-- what stands before a line end, and what stands behind it
pub line_cut : (text line more : List ℕ) → parts 10 text ≡ line ∷ parts 10 more → lines_of text ≡ (line ++ 10 ∷ []) ∷ lines_of more
line_cut text line more e = by (parts 10 more) refl
  where
    by : (ps : List (List ℕ)) → parts 10 more ≡ ps → lines_of text ≡ (line ++ 10 ∷ []) ∷ lines_of more
    by [] is = absurd (some_parts more is)
    by (p ∷ ps) is =
        first_part text line p ps (e ∙ ap (λ (qs : List (List ℕ)). line ∷ qs) is)
        ∙ ap (λ (t : List ℕ). (line ++ 10 ∷ []) ∷ lines_of t) (ap (join_with_byte 10) (sym is) ∙ joined_parts more)

abbrev first_length : List (List ℕ) → ℕ
first_length [] = 0
first_length (p ∷ ps) = length p

abbrev tail_of_first : List (List ℕ) → List ℕ
tail_of_first [] = []
tail_of_first ([] ∷ ps) = []
tail_of_first ((x ∷ xs) ∷ ps) = xs

abbrev all_behind : List (List ℕ) → List (List ℕ)
all_behind [] = []
all_behind (p ∷ ps) = ps

no_end : (c : ℕ) (rest : List ℕ) → parts 10 (c ∷ rest) ≡ (c ∷ rest) ∷ [] → (c == 10) ≡ false
no_end c rest e = elim (cases_Bool (c == 10)) as (λ _. (c == 10) ≡ false) [
  | inl is ↦ absurd (let n = ap first_length (sym (parts_ended c rest is) ∙ e) in omega (arith, n))
  | inr not ↦ not
]

one_part_left : (c : ℕ) (rest : List ℕ) → (c == 10) ≡ false → parts 10 (c ∷ rest) ≡ (c ∷ rest) ∷ [] → parts 10 rest ≡ rest ∷ []
one_part_left c rest not e = on (parts 10 rest) refl (sym (parts_go_on c rest not) ∙ e)
  where
    on : (ps : List (List ℕ)) → parts 10 rest ≡ ps → onto_first c ps ≡ (c ∷ rest) ∷ [] → parts 10 rest ≡ rest ∷ []
    on [] is split = absurd (some_parts rest is)
    on (q ∷ qs) is split = is ∙ ap (λ (l : List ℕ). l ∷ qs) (ap tail_of_first split) ∙ ap (λ (l : List (List ℕ)). rest ∷ l) (ap all_behind split)

-- a text without a line end is one line, if it is not empty
pub one_line : (c : ℕ) (rest : List ℕ) → parts 10 (c ∷ rest) ≡ (c ∷ rest) ∷ [] → lines_of (c ∷ rest) ≡ (c ∷ rest) ∷ []
one_line c [] e = line_goes_on c [] (no_end c [] e) ∙ ap (onto_first c) no_lines
one_line c (d ∷ rest) e =
    let not = no_end c (d ∷ rest) e in
    line_goes_on c (d ∷ rest) not ∙ ap (onto_first c) (one_line d rest (one_part_left c (d ∷ rest) not e))
