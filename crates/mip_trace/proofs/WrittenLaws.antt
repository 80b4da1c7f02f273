-- The text of a history, written entry by entry.
use Rattle.std.proofs.Common.{◌≡◌, ℕ, List, [], ◌∷◌, ◌++◌, refl, sym, ap, ◌∙◌, append_assoc}
use Rattle.std.proofs.lemmas.List.{append-nil}
use Rattle.std.specs.List.{flat_map}
use Rattle.mip_lines.specs.Lines.{line_text}
use Rattle.mip_entries.specs.declared.entry.Entry.{Entry}
use Rattle.mip_trace.specs.Lines.{entry_row, trace_text}
use Rattle.mip_rows.specs.Names.{Names}

pub text_is : (names : Names) (history : List Entry) → flat_map (λ (e : Entry). line_text (entry_row names e)) history ≡ trace_text names history
unfolding trace_text
text_is names [] = refl
text_is names (e ∷ history) = ap (λ (t : List ℕ). line_text (entry_row names e) ++ t) (text_is names history)

-- an entry more is its line more
pub text_more : (names : Names) (history : List Entry) (entry : Entry) → trace_text names (history ++ entry ∷ []) ≡ trace_text names history ++ line_text (entry_row names entry)
unfolding trace_text
text_more names [] entry = append-nil (line_text (entry_row names entry))
text_more names (e ∷ history) entry =
    ap (λ (t : List ℕ). line_text (entry_row names e) ++ t) (text_more names history entry)
    ∙ sym (append_assoc (line_text (entry_row names e)) (trace_text names history) (line_text (entry_row names entry)))

-- of no entry there is no text
pub text_none : (names : Names) → trace_text names [] ≡ []
unfolding trace_text
text_none names = refl

-- of entries one after another
pub text_append : (names : Names) (xs ys : List Entry) → trace_text names (xs ++ ys) ≡ trace_text names xs ++ trace_text names ys
unfolding trace_text
text_append names [] ys = refl
text_append names (e ∷ xs) ys =
    ap (λ (t : List ℕ). line_text (entry_row names e) ++ t) (text_append names xs ys)
    ∙ sym (append_assoc (line_text (entry_row names e)) (trace_text names xs) (trace_text names ys))

pub text_one : (names : Names) (entry : Entry) → trace_text names (entry ∷ []) ≡ line_text (entry_row names entry)
unfolding trace_text
text_one names entry = append-nil (line_text (entry_row names entry))
