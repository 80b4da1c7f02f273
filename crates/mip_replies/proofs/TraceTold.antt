-- A trace that is written entry by entry and piece by piece.
use Rattle.std.proofs.Common.{◌≡◌, ℕ, ◌<◌, ◌≤◌, sym, ap, ◌∙◌, arith, List, [], ◌∷◌, ◌++◌, length, take, append_assoc, subst}
use Rattle.std.proofs.lemmas.List.{take-append-le, take_all}
use Rattle.std.specs.Prelude.{Option}
use Rattle.std.specs.List.{AllByRecursion}
use Rattle.std.specs.Io.KnownBytes.{append_known}
use Rattle.mip_entries.specs.declared.entry.Entry.{Entry}
use Rattle.mip_entries.specs.Widths.{HasWidths}
use Rattle.mip_outside.proofs.Known.{append_more}
use Rattle.mip_printing.proofs.Parts.{part_of}
use Rattle.mip_trace.specs.Lines.{trace_text}
use Rattle.mip_rows.specs.Names.{Names}
use Rattle.mip_trace.proofs.WrittenLaws.{text_append}

-- a piece more was written, under the names `own`
pub piece_more : (a b c : Option (List ℕ)) (names own : Names) (next told items : List Entry) → own ≡ names → next ≡ told ++ items
    → b ≡ append_known a (trace_text names told) → c ≡ append_known b (trace_text own items) → c ≡ append_known a (trace_text names next)
piece_more a b c names own next told items same more first put =
    append_more a b c _ _ first (put ∙ ap (λ (n : Names). append_known b (trace_text n items)) same)
    ∙ ap (append_known a) (sym (ap (trace_text names) more ∙ text_append names told items))

-- a part of a piece was written
pub piece_part : (a b c : Option (List ℕ)) (names own : Names) (whole next told items rest : List Entry) (k : ℕ) → own ≡ names → whole ≡ next ++ rest
    → next ≡ told ++ items → b ≡ append_known a (trace_text names told) → k < length (trace_text own items) → c ≡ append_known b (take k (trace_text own items))
    → (count : ℕ) × (count < length (trace_text names whole)) × (c ≡ append_known a (take count (trace_text names whole)))
piece_part a b c names own whole next told items rest k same is more first below put =
    let T = trace_text names told in
    let I = trace_text names items in
    let R = trace_text names rest in
    let text : trace_text names whole ≡ T ++ (I ++ R) =
    ap (trace_text names) is ∙ text_append names next rest ∙ ap (λ (l : List Entry). trace_text names l ++ R) more
    ∙ ap (λ t. t ++ R) (text_append names told items) ∙ append_assoc T I R in
    subst (λ (t : List ℕ). (count : ℕ) × (count < length t) × (c ≡ append_known a (take count t))) (sym text)
    (part_of a b c T I R k first (omega (arith, below, ap (λ (n : Names). length (trace_text n items)) same))
    (put ∙ ap (λ (n : Names). append_known b (take k (trace_text n items))) same))

-- the text of what was told is a front of the trace
pub told_part : (a b : Option (List ℕ)) (names : Names) (whole told rest : List Entry) → whole ≡ told ++ rest → b ≡ append_known a (trace_text names told)
    → (count : ℕ) × (b ≡ append_known a (take count (trace_text names whole)))
told_part a b names whole told rest is first =
    let T = trace_text names told in
    let le : length T ≤ length T = omega arith in
    let cut : take (length T) (trace_text names whole) ≡ T =
    ap (take (length T)) (ap (trace_text names) is ∙ text_append names told rest) ∙ take-append-le (length T) T (trace_text names rest) le ∙ take_all (length T) T le in
    (length T, first ∙ ap (append_known a) (sym cut))

-- the numbers of entries fit their fields, and those of more entries
pub widths_more : (told items : List Entry) → AllByRecursion HasWidths told → AllByRecursion HasWidths items → AllByRecursion HasWidths (told ++ items)
widths_more [] items first next = next
widths_more (e ∷ told) items first next = (first.0, widths_more told items first.1 next)
