-- A trace that is written entry by entry.
use Rattle.std.proofs.Common.{◌≡◌, ℕ, suc, ◌+◌, ◌<◌, ◌≤◌, refl, sym, ap, ◌∙◌, arith, List, [], ◌∷◌, ◌++◌, length, take, drop, get_or, append_assoc, length-append, subst}
use Rattle.std.proofs.Math.Seq.{take-append-add, take-suc, drop-cons}
use Rattle.std.proofs.lemmas.List.{take-append-drop, take-append-le}
use Rattle.std.specs.Prelude.{Option}
use Rattle.std.specs.Io.KnownBytes.{append_known}
use Rattle.mip_lines.specs.Lines.{spaced, line_text}
use Rattle.mip_entries.specs.declared.entry.Entry.{Entry}
use Rattle.mip_outside.proofs.Known.{append_none, append_more}
use Rattle.mip_rows.specs.Names.{Names}
use Rattle.mip_trace.specs.Lines.{entry_row, trace_text}
use Rattle.mip_trace.proofs.WrittenLaws.{text_append, text_more}

-- an entry more was written
pub entry_more : (a b c : Option (List ℕ)) (names : Names) (es : List Entry) (i : ℕ) (e : Entry) → i < length es → e ≡ get_or es i e
    → b ≡ append_known a (trace_text names (take i es)) → c ≡ append_known b (line_text (entry_row names e)) → c ≡ append_known a (trace_text names (take (i + 1) es))
entry_more a b c names es i e lt is first next =
    let one : i + 1 ≡ suc i = omega arith in
    let front : take (i + 1) es ≡ take i es ++ e ∷ [] = ap (λ n. take n es) one ∙ take-suc es i e lt ∙ ap (λ x. take i es ++ x ∷ []) (sym is) in
    append_more a b c _ _ first next ∙ ap (append_known a) (sym (ap (trace_text names) front ∙ text_more names (take i es) e))

-- a part of a text that stands in a longer one was written
pub part_of : (a b c : Option (List ℕ)) (A L R : List ℕ) (k : ℕ) → b ≡ append_known a A → k < length L → c ≡ append_known b (take k L)
    → (count : ℕ) × (count < length (A ++ (L ++ R))) × (c ≡ append_known a (take count (A ++ (L ++ R))))
part_of a b c A L R k first below next =
    let le : k ≤ length L = omega arith in
    let cut : take (length A + k) (A ++ (L ++ R)) ≡ A ++ take k L = take-append-add A (L ++ R) k ∙ ap (λ t. A ++ t) (take-append-le k L R le) in
    (length A + k, omega (arith, below, length-append A (L ++ R), length-append L R), append_more a b c A (take k L) first next ∙ ap (append_known a) (sym cut))

-- a part of an entry's line was written
pub entry_part : (a b c : Option (List ℕ)) (names : Names) (es : List Entry) (i : ℕ) (e : Entry) (k : ℕ) → i < length es → e ≡ get_or es i e
    → b ≡ append_known a (trace_text names (take i es)) → k < length (line_text (entry_row names e)) → c ≡ append_known b (take k (line_text (entry_row names e)))
    → (count : ℕ) × (count < length (trace_text names es)) × (c ≡ append_known a (take count (trace_text names es)))
entry_part a b c names es i e k lt is first below next =
    let A = trace_text names (take i es) in
    let L = line_text (entry_row names e) in
    let R = trace_text names (drop (suc i) es) in
    let split : es ≡ (take i es ++ e ∷ []) ++ drop (suc i) es =
    sym (take-append-drop i es) ∙ ap (λ r. take i es ++ r) (drop-cons es i e lt ∙ ap (λ x. x ∷ drop (suc i) es) (sym is)) ∙ sym (append_assoc (take i es) (e ∷ []) (drop (suc i) es)) in
    let whole : trace_text names es ≡ A ++ (L ++ R) =
    ap (trace_text names) split ∙ text_append names (take i es ++ e ∷ []) (drop (suc i) es) ∙ ap (λ t. t ++ R) (text_more names (take i es) e) ∙ append_assoc A L R in
    subst (λ (t : List ℕ). (count : ℕ) × (count < length t) × (c ≡ append_known a (take count t))) (sym whole) (part_of a b c A L R k first below next)

-- a line has a byte
line_has_one : (fields : List (List ℕ)) → 0 < length (line_text fields)
unfolding line_text
line_has_one [] = omega arith
line_has_one (field ∷ fields) = omega (arith, length-append field (spaced fields ++ 10 ∷ []), length-append (spaced fields) (10 ∷ []))

-- nothing of a line was written
pub none_of : (a : Option (List ℕ)) (fields : List (List ℕ)) → (count : ℕ) × (count < length (line_text fields)) × (a ≡ append_known a (take count (line_text fields)))
none_of a fields = (0, line_has_one fields, append_none a a refl)
