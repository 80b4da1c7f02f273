-- Entries whose lines are compared, one after the other.
use Rattle.std.proofs.Common.{◌≡◌, ℕ, ◌+◌, ◌<◌, List, [], ◌∷◌, ◌++◌, length, drop, get_or, sym, ap, ◌∙◌, append_assoc}
use Rattle.std.proofs.lemmas.List.{drop_more}
use Rattle.mip_lines.specs.Lines.{line_text}
use Rattle.mip_entries.specs.declared.entry.Entry.{Entry}
use Rattle.mip_rows.specs.Names.{Names}
use Rattle.mip_trace.specs.Lines.{entry_row, trace_text}
use Rattle.mip_trace.proofs.WrittenLaws.{text_append, text_one}

-- the text of what is left begins with the line of the next entry
pub text_left : (names : Names) (es : List Entry) (i : ℕ) (e : Entry) (more : List ℕ) → i < length es → e ≡ get_or es i e
    → trace_text names (drop i es) ++ more ≡ line_text (entry_row names e) ++ (trace_text names (drop (i + 1) es) ++ more)
text_left names es i e more within is =
    let next : drop i es ≡ e ∷ drop (i + 1) es = drop_more es i e within ∙ ap (λ (x : Entry). x ∷ drop (i + 1) es) (sym is) in
    ap (λ (xs : List Entry). trace_text names xs ++ more) next
    ∙ ap (λ (t : List ℕ). t ++ more) (text_append names (e ∷ []) (drop (i + 1) es) ∙ ap (λ (t : List ℕ). t ++ trace_text names (drop (i + 1) es)) (text_one names e))
    ∙ append_assoc (line_text (entry_row names e)) (trace_text names (drop (i + 1) es)) more
