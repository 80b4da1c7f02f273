-- A line that is read is that of the entry read, and this is an entry of the declarations; the line of an entry of the
-- declarations is read as the entry, and is a row of plain fields.
use Rattle.std.proofs.Common.{◌≡◌, ℕ, ◌+◌, ◌<◌, ◌≤◌, List, [], ◌∷◌, length, true, refl, sym, ap, ◌∙◌, subst, arith}
use Rattle.std.specs.Prelude.{Option, Some, None, Result, Ok, Err}
use Rattle.std.specs.Str.{bytes_eq}
use Rattle.std.proofs.lemmas.Bool.{cond_both, cond-false, and_from, leb-true, ne_eqb}
use Rattle.std.proofs.lemmas.Slice.Eq.{bytes_eq-Decides}
use Rattle.mip_words.specs.Steps.{◌>>=◌}
use Rattle.mip_words.proofs.StepLaws.{bind_ok, ok_is}
use Rattle.mip_lines.specs.LinesLaws.{is_row}
use Rattle.mip_entries.specs.declared.entry.Entry.{Entry}
use Rattle.mip_symbols.specs.Places.{AreFew, NamesFound}
use Rattle.mip_symbols.specs.declared.declaration.Declaration.{Declaration}
use Rattle.mip_symbols.specs.declared.reason.Reason.{Reason}
use Rattle.mip_symbols.specs.declared.reason.Reason.TheVariants as reasons
use Rattle.mip_rows.specs.Ranges.{AreOfKinds, IsTail}
use Rattle.mip_rows.specs.Rows.{tail_count, row_of}
use Rattle.mip_rows.specs.Texts.{row_texts}
use Rattle.mip_rows.specs.declared.row.Row.{Row}
use Rattle.mip_rows.specs.declared.tail.Tail.{Tail}
use Rattle.mip_rows.specs.declared.tail.Tail.TheVariants as tails
use Rattle.mip_rows.specs.declared.value.Value.{Value}
use Rattle.mip_rows.proofs.FieldPlain.{row-plain}
use Rattle.mip_rows.proofs.RowLaws.{row-read, row-again}
use Rattle.mip_rows.proofs.Shapes.{shaped}
use Rattle.mip_trace.specs.EntryLines.{word_text, kinds_of, tail_kind, entry_at, Line, line_of, line_fields}
use Rattle.mip_trace.specs.EntryReading.{word_among, word_of, entry_by, entry_of}
use Rattle.mip_trace.specs.Lines.{entry_row}
use Rattle.mip_trace.specs.Ranges.{IsOf, IsLineOf}
use Rattle.mip_trace.specs.declared.entry_word.EntryWord.{EntryWord}
use Rattle.mip_trace.proofs.EntryLaws.{words-known, entry-kept, kept, line-kept}

-- a word that is found has the text of the field
some_is : (x y : EntryWord) → Some x ≡ Some y → x ≡ y
some_is x y e = cc

found_text : (some : List EntryWord) (f : List ℕ) (w : EntryWord) → word_among some f ≡ Some w → f ≡ word_text w
found_text [] f w = λ e. absurd cc
found_text (first ∷ more) f w =
    cond_both (bytes_eq (word_text first) f) _ _ (λ (o : Option EntryWord). o ≡ Some w → f ≡ word_text w)
    (λ test e. sym ((bytes_eq-Decides (word_text first) f).0 test) ∙ ap word_text (some_is first w e))
    (λ _ e. found_text more f w e)

kept_all : (t : Tail) (b : List ℕ) → IsTail t b → kept t b ≡ b
kept_all tails.Nothing b is = sym is
kept_all tails.Bytes b is = refl
kept_all tails.Packet b is = refl

abbrev whole : EntryWord → List Value → List ℕ → Line
whole w vs b = record { word = w; values = vs; bytes = b }

abbrev made : List Value → List ℕ → Row
made vs b = record { values = vs; bytes = b }

-- the line of a row's entry is the row's
row_kept : (ds : List Declaration) (w : EntryWord) (vs : List Value) (b : List ℕ) → AreOfKinds ds (kinds_of w) vs → IsTail (tail_kind w) b
    → (line_of (entry_at w (made vs b)) ≡ whole w vs b) × IsOf ds (entry_at w (made vs b))
row_kept ds w vs b are is =
    let s = shaped ds (kinds_of w) vs are in
    let l = line-kept ds w s.0 b (subst (AreOfKinds ds (kinds_of w)) s.1 are) is in
    let p = subst (λ (ws : List Value). (line_of (entry_at w (made ws b)) ≡ whole w ws (kept (tail_kind w) b)) × IsOf ds (entry_at w (made ws b))) (sym s.1) l in
    (p.0 ∙ ap (whole w vs) (kept_all (tail_kind w) b is), p.1)

pub entry-read : (ds : List Declaration) → AreFew ds → (row : List (List ℕ)) (x : Entry) → entry_of ds row ≡ Ok x → IsLineOf ds row x
unfolding entry_of
entry-read ds few [] x e = absurd cc
entry-read ds few (first ∷ fields) x e = by (word_of first) refl e
  where
    by : (o : Option EntryWord) → word_of first ≡ o → entry_by ds o fields ≡ Ok x → IsLineOf ds (first ∷ fields) x
    by None is e = absurd cc
    by (Some w) is e =
        let p = bind_ok (row_of ds (kinds_of w) (tail_kind w) fields) (λ r. Ok (entry_at w r)) x e in
        let q = row-read ds few (kinds_of w) (tail_kind w) fields p.0 p.1 in
        let l = row_kept ds w p.0.values p.0.bytes q.1.0 q.1.1 in
        subst (IsLineOf ds (first ∷ fields)) (ok_is (entry_at w p.0) x p.2)
        (ap (λ (g : List ℕ). g ∷ fields) (found_text _ first w is) ∙ ap (λ (gs : List (List ℕ)). word_text w ∷ gs) q.0 ∙ ap (line_fields (Some ds)) (sym l.0), l.1)

-- the line of an entry of the declarations is read as the entry
pub entry-again : (ds : List Declaration) → AreFew ds → NamesFound ds → (e : Entry) → IsOf ds e → entry_of ds (entry_row (Some ds) e) ≡ Ok e
unfolding entry_of
entry-again ds few found e is =
    let l : Line = line_of e in
    let k = entry-kept ds e is in
    ap (λ (o : Option EntryWord). entry_by ds o (row_texts (Some ds) l.values (tail_kind l.word) l.bytes)) (words-known l.word).0
    ∙ ap (λ (r : Result Row Reason). r >>= (λ s. Ok (entry_at l.word s))) (row-again ds few found (kinds_of l.word) (tail_kind l.word) l.values l.bytes k.1 k.2)
    ∙ ap (λ (x : Entry). Ok x) k.0

-- and is a row of plain fields
pub entry-plain : (ds : List Declaration) → AreFew ds → NamesFound ds → (e : Entry) → IsOf ds e → is_row (entry_row (Some ds) e) ≡ true
entry-plain ds few found e is =
    let l : Line = line_of e in
    and_from _ _ (words-known l.word).1 (row-plain ds few found (kinds_of l.word) l.values (tail_kind l.word) l.bytes (entry-kept ds e is).1)

-- a line of more than ten fields is that of no entry
pub many_fields : (ds : List Declaration) (row : List (List ℕ)) → 10 < length row → entry_of ds row ≡ Err reasons.Form
unfolding entry_of row_of
many_fields ds [] many = absurd (omega arith)
many_fields ds (first ∷ fields) many = by (word_of first)
  where
    long : (w : EntryWord) → row_of ds (kinds_of w) (tail_kind w) fields ≡ Err reasons.Form
    long w =
        let most : length (kinds_of w) + tail_count (tail_kind w) ≤ 9 = leb-true (length (kinds_of w) + tail_count (tail_kind w)) 9 (words-known w).2 in
        cond-false _ _ _ (ne_eqb (length fields) (length (kinds_of w) + tail_count (tail_kind w)) (λ e. omega arith))

    by : (o : Option EntryWord) → entry_by ds o fields ≡ Err reasons.Form
    by None = refl
    by (Some w) = ap (λ (r : Result Row Reason). r >>= (λ s. Ok (entry_at w s))) (long w)
