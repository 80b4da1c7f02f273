-- What is known of lines as they are written: a text whose rows these are is their spelling, and is cut into them
-- again where no field has a space or a line end.
use Rattle.std.proofs.Common.{◌≡◌, ℕ, zero, suc, ◌<◌, ◌/◌, ◌%◌, ◌^◌, List, [], ◌∷◌, ◌++◌, true, false, not, refl, sym, ap, ◌∙◌, subst, append_assoc, arith}
use Rattle.std.specs.Prelude.{map, ◌==◌, ◌&&◌, decimal}
use Rattle.std.specs.Char.{digit_value}
use Rattle.std.specs.List.{All, join_with_byte, list_all}
use Rattle.std.specs.Str.Parse.{AllDigits}
use Rattle.std.proofs.lemmas.Bool.{and_parts, and_from, not-true, not_from_false, ne_eqb}
use Rattle.std.proofs.lemmas.Bool.Decides.{nat_tests}
use Rattle.std.proofs.lemmas.Fmt.{decimal_is_IsNumeral}
use Rattle.std.proofs.lemmas.Grind.{flat_map-append}
use Rattle.std.proofs.lemmas.List.{append-nil}
use Rattle.std.proofs.lemmas.List.Elements.{All-append}
use Rattle.std.proofs.lemmas.List.Splits.{join_with_byte-slice_split, slice_split_none, slice_split_at}
use Rattle.std.proofs.lemmas.List.Sums.{AllPass-from_list_all}
use Rattle.mip_words.specs.Hex.{glyph, hex_of}
use Rattle.mip_lines.specs.Cutting.{parts, fields_of, rows_of}
use Rattle.mip_lines.specs.HexFields.{hex_text}
use Rattle.mip_lines.specs.Lines.{spaced, line_text, lines_text}
use Rattle.mip_lines.specs.LinesLaws.{is_plain, is_row}

-- a line that was appended piece by piece, its last field apart
pub appended_line : (o w : List ℕ) (fs : List (List ℕ)) (h : List ℕ) → ((((o ++ w) ++ spaced fs) ++ 32 ∷ []) ++ h) ++ 10 ∷ [] ≡ o ++ line_text (w ∷ (fs ++ h ∷ []))
unfolding line_text
appended_line o w fs h =
    let s : spaced (fs ++ h ∷ []) ≡ spaced fs ++ 32 ∷ h = flat_map-append (λ f. 32 ∷ f) fs (h ∷ []) ∙ ap (λ (t : List ℕ). spaced fs ++ 32 ∷ t) (append-nil h) in
    rw s (simp append_assoc)

joined : (f : List ℕ) (fs : List (List ℕ)) → f ++ spaced fs ≡ join_with_byte 32 (f ∷ fs)
joined f [] = append-nil f
joined f (g ∷ gs) = ap (λ (t : List ℕ). f ++ 32 ∷ t) (joined g gs)

-- a line is its fields joined by spaces, and a line end
line_joined : (fs : List (List ℕ)) → line_text fs ≡ join_with_byte 32 fs ++ 10 ∷ []
unfolding line_text
line_joined [] = refl
line_joined (f ∷ fs) = sym (append_assoc f (spaced fs) (10 ∷ [])) ∙ ap (λ (t : List ℕ). t ++ 10 ∷ []) (joined f fs)

rows_joined : (rows : List (List (List ℕ))) → join_with_byte 10 (map (λ r. join_with_byte 32 r) (rows ++ ([] ∷ []) ∷ [])) ≡ lines_text rows
rows_joined [] = refl
rows_joined (r ∷ []) = sym (append-nil (line_text r) ∙ line_joined r)
rows_joined (r ∷ s ∷ rows) =
    ap (λ (t : List ℕ). join_with_byte 32 r ++ 10 ∷ t) (rows_joined (s ∷ rows))
    ∙ sym (ap (λ (t : List ℕ). t ++ lines_text (s ∷ rows)) (line_joined r) ∙ append_assoc (join_with_byte 32 r) (10 ∷ []) (lines_text (s ∷ rows)))

lines_again : (lines : List (List ℕ)) → lines ≡ map (λ r. join_with_byte 32 r) (map fields_of lines)
unfolding parts
lines_again [] = refl
lines_again (l ∷ lines) = ap (λ (x : List ℕ). x ∷ lines) (sym (join_with_byte-slice_split 32 l)) ∙ ap (λ (ls : List (List ℕ)). join_with_byte 32 (fields_of l) ∷ ls) (lines_again lines)

whole_text : (text : List ℕ) → text ≡ join_with_byte 10 (parts 10 text)
unfolding parts
whole_text text = sym (join_with_byte-slice_split 10 text)

-- a text whose rows these are, with nothing behind the last line end, is their spelling
pub text-spelled : (text : List ℕ) (rows : List (List (List ℕ))) → rows_of text ≡ rows ++ ([] ∷ []) ∷ [] → text ≡ lines_text rows
text-spelled text rows is =
    whole_text text ∙ ap (join_with_byte 10) (lines_again (parts 10 text)) ∙ ap (λ (rs : List (List (List ℕ))). join_with_byte 10 (map (λ r. join_with_byte 32 r) rs)) is ∙ rows_joined rows

-- a plain field has no space, and no line end
plain_parts : (f : List ℕ) → is_plain f ≡ true → All (λ c. (c == 32) ≡ false) f × All (λ c. (c == 10) ≡ false) f
plain_parts f plain =
    let all : All (λ c. (not (c == 32) && not (c == 10)) ≡ true) f = AllPass-from_list_all (λ c. not (c == 32) && not (c == 10)) f plain in
    ((λ k d inside. not-true _ (and_parts _ _ (all k d inside)).0), (λ k d inside. not-true _ (and_parts _ _ (all k d inside)).1))

-- fields are cut out of the line that they spell
pub fields-again : (f : List ℕ) (fs : List (List ℕ)) → list_all is_plain (f ∷ fs) ≡ true → fields_of (join_with_byte 32 (f ∷ fs)) ≡ f ∷ fs
unfolding parts
fields-again f [] plain = slice_split_none (λ b. b == 32) f (plain_parts f (and_parts (is_plain f) true plain).0).0
fields-again f (g ∷ gs) plain =
    let p = and_parts (is_plain f) (list_all is_plain (g ∷ gs)) plain in
    slice_split_at (λ b. b == 32) f 32 (join_with_byte 32 (g ∷ gs)) (plain_parts f p.0).0 refl ∙ ap (λ (rest : List (List ℕ)). f ∷ rest) (fields-again g gs p.1)

no_end : (f : List ℕ) (fs : List (List ℕ)) → list_all is_plain (f ∷ fs) ≡ true → All (λ c. (c == 10) ≡ false) (join_with_byte 32 (f ∷ fs))
no_end f [] plain = (plain_parts f (and_parts (is_plain f) true plain).0).1
no_end f (g ∷ gs) plain =
    let p = and_parts (is_plain f) (list_all is_plain (g ∷ gs)) plain in
    All-append (λ c. (c == 10) ≡ false) f (32 ∷ join_with_byte 32 (g ∷ gs)) (plain_parts f p.0).1 (All-append (λ c. (c == 10) ≡ false) (32 ∷ []) (join_with_byte 32 (g ∷ gs)) space (no_end g gs p.1))
  where
    space : All (λ c. (c == 10) ≡ false) (32 ∷ [])
    space zero d inside = refl
    space (suc k) d inside = absurd (omega arith)

-- a line is cut off the text that it begins, and cut into its fields
pub line-again : (row : List (List ℕ)) (rest : List ℕ) → is_row row ≡ true → rows_of (line_text row ++ rest) ≡ row ∷ rows_of rest
unfolding parts
line-again [] rest is = absurd cc
line-again (f ∷ fs) rest is =
    let line : List ℕ = join_with_byte 32 (f ∷ fs) in
    let text : line_text (f ∷ fs) ++ rest ≡ line ++ 10 ∷ rest = ap (λ (t : List ℕ). t ++ rest) (line_joined (f ∷ fs)) ∙ append_assoc line (10 ∷ []) rest in
    ap rows_of text ∙ ap (map fields_of) (slice_split_at (λ b. b == 10) line 10 rest (no_end f fs is) refl) ∙ ap (λ (row : List (List ℕ)). row ∷ rows_of rest) (fields-again f fs is)

-- rows of plain fields are cut out of the text that they spell
pub text-again : (rows : List (List (List ℕ))) → list_all is_row rows ≡ true → rows_of (lines_text rows) ≡ rows ++ ([] ∷ []) ∷ []
unfolding parts
text-again [] are = refl
text-again (row ∷ rows) are =
    let p = and_parts (is_row row) (list_all is_row rows) are in
    line-again row (lines_text rows) p.0 ∙ ap (λ (rest : List (List (List ℕ))). row ∷ rest) (text-again rows p.1)

digits_plain : (ds : List ℕ) → AllDigits 10 ds → is_plain ds ≡ true
digits_plain [] are = refl
digits_plain (c ∷ ds) are = and_from _ _ (digit_plain c are.0) (digits_plain ds are.1)
  where
    digit_plain : (c : ℕ) → digit_value c < 10 → (not (c == 32) && not (c == 10)) ≡ true
    digit_plain c small =
        and_from _ _
        (not_from_false _ (ne_eqb c 32 (λ e. let bad : digit_value 32 < 10 = subst (λ (x : ℕ). digit_value x < 10) e small in omega arith)))
        (not_from_false _ (ne_eqb c 10 (λ e. let bad : digit_value 10 < 10 = subst (λ (x : ℕ). digit_value x < 10) e small in omega arith)))

-- the digits of a number are plain
pub decimal_plain : (n : ℕ) → n < 2 ^ 64 → is_plain (decimal n) ≡ true
decimal_plain n small = digits_plain (decimal n) (decimal_is_IsNumeral n small).0.1

glyph_plain : (d : ℕ) → (not (glyph d == 32) && not (glyph d == 10)) ≡ true
glyph_plain d = grind (arith, nat_tests)

-- hexadecimal digits are plain
pub hex_plain : (bytes : List ℕ) → is_plain (hex_of bytes) ≡ true
hex_plain [] = refl
hex_plain (b ∷ bytes) = and_from _ _ (glyph_plain (b / 16)) (and_from _ _ (glyph_plain (b % 16)) (hex_plain bytes))

pub hex_text_plain : (bytes : List ℕ) → is_plain (hex_text bytes) ≡ true
unfolding hex_text
hex_text_plain [] = refl
hex_text_plain (b ∷ bytes) = hex_plain (b ∷ bytes)
