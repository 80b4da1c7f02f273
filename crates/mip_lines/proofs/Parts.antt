-- What is known of the parts of a text.
use Rattle.std.proofs.Common.{◌≡◌, ℕ, ◌+◌, ◌<◌, ◌≤◌, List, [], ◌∷◌, ◌++◌, ◌-◌, length, length-append, take, drop, Bool, true, false, not, refl, sym, ap, ◌∙◌, subst, inl, inr, arith, nat_lt}
use Rattle.std.specs.Prelude.{Option, Some, None, ◌==◌, if◌then◌else◌, slice_index}
use Rattle.std.specs.List.{count_by, slice_split, onto_first, position, position_or_len, prefix_len}
use Rattle.std.proofs.lemmas.Bool.{cond_both, cond-true, cond-false, cases_Bool, ltb-true, ltb-false, not_from_true, not_from_false}
use Rattle.std.proofs.lemmas.List.{append_assoc, length-drop, drop-drop, take_all}
use Rattle.std.proofs.lemmas.List.Splits.{length-slice_split, slice_split-cons_no, slice_split_first}
use Rattle.std.proofs.lemmas.List.Sums.{position_or_len_is}
use Rattle.memchr.specs.Find.{IsFirstByte, is_byte}
use Rattle.mip_lines.specs.Cutting.{parts, fields_of}
use Rattle.mip_lines.specs.Spaces.{is_plain, end_of}

-- what is not true is false
false_if_not : (b : Bool) → ¬ (b ≡ true) → b ≡ false
false_if_not true so = absurd (so refl)
false_if_not false so = refl

-- the place that a search of bytes finds is the first one
pub first_place : (c : ℕ) (bytes : List ℕ) (place : Option ℕ) → IsFirstByte (is_byte c) bytes place → place ≡ position (λ b. b == c) bytes
first_place c bytes None none =
    let p : ℕ → Bool = λ b. b == c in
    let far : position_or_len p bytes ≡ length bytes = position_or_len_is p bytes (length bytes) 0 (omega arith) (λ k l. false_if_not (p (slice_index bytes k)) (none k (omega arith) l)) (λ l. absurd (omega arith)) in
    cond_both (nat_lt (position_or_len p bytes) (length bytes)) _ _ (λ (o : Option ℕ). None ≡ o)
    (λ near. absurd (let l = ltb-true (position_or_len p bytes) (length bytes) near in omega arith))
    (λ _. refl)
first_place c bytes (Some i) found =
    let p : ℕ → Bool = λ b. b == c in
    let inside : i < length bytes = found.0.high in
    let here : position_or_len p bytes ≡ i = position_or_len_is p bytes i 0 (omega arith) (λ k l. false_if_not (p (slice_index bytes k)) (found.0.before k (omega arith) l)) (λ l. found.1) in
    cond_both (nat_lt (position_or_len p bytes) (length bytes)) _ _ (λ (o : Option ℕ). Some i ≡ o)
    (λ _. ap (λ (k : ℕ). Some k) (sym here))
    (λ past. absurd (let l = ltb-false (position_or_len p bytes) (length bytes) past in omega arith))

-- where no byte passes, the list is the one part
whole : (p : ℕ → Bool) (xs : List ℕ) → length xs ≤ position_or_len p xs → slice_split p xs ≡ xs ∷ []
whole p [] far = refl
whole p (x ∷ xs) far =
    elim (cases_Bool (p x)) as (λ _. slice_split p (x ∷ xs) ≡ (x ∷ xs) ∷ []) [
      | inl passes ↦
          let e : position_or_len p (x ∷ xs) ≡ 0 = cond-false (not (p x)) _ _ (not_from_true (p x) passes) in
          absurd (omega arith)
      | inr other ↦
          let e : position_or_len p (x ∷ xs) ≡ 1 + position_or_len p xs = cond-true (not (p x)) _ _ (not_from_false (p x) other) in
          slice_split-cons_no p x xs other ∙ ap (onto_first x) (whole p xs (omega arith))
    ]

-- a byte that stands nowhere cuts nothing
pub parts_none : (c : ℕ) (bytes : List ℕ) → position (λ b. b == c) bytes ≡ None → parts c bytes ≡ bytes ∷ []
unfolding parts
parts_none c bytes =
    cond_both (nat_lt (position_or_len (λ b. b == c) bytes) (length bytes)) _ _ (λ (o : Option ℕ). o ≡ None → slice_split (λ b. b == c) bytes ≡ bytes ∷ [])
    (λ _ e. absurd cc)
    (λ far _. whole (λ b. b == c) bytes (ltb-false (position_or_len (λ b. b == c) bytes) (length bytes) far))

-- the first such byte ends the first part
pub parts_some : (c : ℕ) (bytes : List ℕ) (i : ℕ) → position (λ b. b == c) bytes ≡ Some i → (i < length bytes) × (parts c bytes ≡ take i bytes ∷ parts c (drop (i + 1) bytes))
unfolding parts
parts_some c bytes i =
    let p : ℕ → Bool = λ b. b == c in
    let at : ℕ = position_or_len p bytes in
    cond_both (nat_lt at (length bytes)) _ _ (λ (o : Option ℕ). o ≡ Some i → (i < length bytes) × (slice_split p bytes ≡ take i bytes ∷ slice_split p (drop (i + 1) bytes)))
    (λ near e. let same : at ≡ i = cc in
    subst (λ (k : ℕ). (k < length bytes) × (slice_split p bytes ≡ take k bytes ∷ slice_split p (drop (k + 1) bytes))) same
    (ltb-true at (length bytes) near, slice_split_first p bytes 0 (ltb-true at (length bytes) near)))
    (λ _ e. absurd cc)

-- a line has one field more than spaces
pub fields_counted : (line : List ℕ) → length (fields_of line) ≡ count_by (λ b. b == 32) line + 1
unfolding parts
fields_counted line = length-slice_split (λ b. b == 32) line

-- a line has a field at least
pub some_field : (line : List ℕ) → 0 < length (parts 32 line)
some_field line = let e = fields_counted line in omega (arith, e)

-- the first space is where the run of other bytes ends
space_at : (line : List ℕ) → position_or_len (λ b. b == 32) line ≡ prefix_len is_plain line
space_at [] = refl
space_at (b ∷ line) = ap (λ (n : ℕ). if is_plain b then 1 + n else 0) (space_at line)

-- a space ends the field that begins at a place
field_cut : (line : List ℕ) (start end : ℕ) → end ≡ end_of start line → start ≤ length line → end < length line
    → parts 32 (drop start line) ≡ take (end - start) (drop start line) ∷ parts 32 (drop (end + 1) line)
unfolding parts
field_cut line start end is within inside =
    let rest = drop start line in
    let at = space_at rest in
    let gone : end - start ≡ position_or_len (λ b. b == 32) rest = omega (arith, is, at) in
    let near : position_or_len (λ b. b == 32) rest < length rest = omega (arith, is, at, inside, within, length-drop start line) in
    let there : start + (position_or_len (λ b. b == 32) rest + 1) ≡ end + 1 = omega (arith, is, at) in
    slice_split_first (λ b. b == 32) rest 0 near
    ∙ ap (λ (n : ℕ). take n rest ∷ slice_split (λ b. b == 32) (drop (position_or_len (λ b. b == 32) rest + 1) rest)) (sym gone)
    ∙ ap (λ (l : List ℕ). take (end - start) rest ∷ slice_split (λ b. b == 32) l) (drop-drop (position_or_len (λ b. b == 32) rest + 1) start line ∙ ap (λ (n : ℕ). drop n line) there)

-- where no space is left, the field goes on to the end of the line
field_left : (line : List ℕ) (start end : ℕ) → end ≡ end_of start line → start ≤ length line → length line ≤ end
    → parts 32 (drop start line) ≡ take (length line - start) (drop start line) ∷ []
unfolding parts
field_left line start end is within past =
    let rest = drop start line in
    let far : length rest ≤ position_or_len (λ b. b == 32) rest = omega (arith, is, space_at rest, past, within, length-drop start line) in
    whole (λ b. b == 32) rest far ∙ ap (λ (l : List ℕ). l ∷ []) (sym (take_all (length line - start) rest (omega (arith, length-drop start line))))

-- one field more is cut
pub cut_next : (fs whole : List (List ℕ)) (line : List ℕ) (start end : ℕ) → end ≡ end_of start line → start ≤ length line → end < length line → fs ++ parts 32 (drop start line) ≡ whole
    → (fs ++ take (end - start) (drop start line) ∷ []) ++ parts 32 (drop (end + 1) line) ≡ whole
cut_next fs whole line start end is within inside so_far =
    let field = take (end - start) (drop start line) in
    append_assoc fs (field ∷ []) (parts 32 (drop (end + 1) line))
    ∙ ap (λ (ps : List (List ℕ)). fs ++ ps) (sym (field_cut line start end is within inside))
    ∙ so_far

-- the last one is
pub cut_last : (fs whole : List (List ℕ)) (line : List ℕ) (start end : ℕ) → end ≡ end_of start line → start ≤ length line → length line ≤ end → fs ++ parts 32 (drop start line) ≡ whole
    → fs ++ take (length line - start) (drop start line) ∷ [] ≡ whole
cut_last fs whole line start end is within past so_far =
    ap (λ (ps : List (List ℕ)). fs ++ ps) (sym (field_left line start end is within past)) ∙ so_far

-- behind twelve fields there is one more
pub too_many : (fs whole : List (List ℕ)) (line : List ℕ) (start : ℕ) → length fs ≡ 12 → fs ++ parts 32 (drop start line) ≡ whole → 12 < length whole
too_many fs whole line start twelve so_far =
    subst (λ (l : List (List ℕ)). 12 < length l) so_far (omega (arith, twelve, some_field (drop start line), length-append fs (parts 32 (drop start line))))
