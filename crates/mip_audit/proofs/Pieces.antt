-- A text that is compared with that of a history, piece by piece.
use Rattle.std.proofs.Common.{◌≡◌, ℕ, sym, ap, ◌∙◌, List, [], ◌++◌, append-nil, append_assoc}
use Rattle.std.specs.Prelude.{Option, Some, Err}
use Rattle.mip_entries.specs.declared.entry.Entry.{Entry}
use Rattle.mip_rows.specs.Names.{Names}
use Rattle.mip_trace.specs.Lines.{trace_text}
use Rattle.mip_trace.proofs.WrittenLaws.{text_none, text_append}
use Rattle.mip_audit.specs.Differences.{Progress, difference_from, Judges, OnDiffers}
use Rattle.mip_audit.specs.declared.fault.AuditFault.{AuditFault}
use Rattle.mip_audit.specs.declared.fault.AuditFault.TheVariants as faults

-- what was told so far is compared, whatever comes
abbrev pub IsCompared : Progress → Progress → Names → List Entry → Type 0
IsCompared start now names told = (more : List ℕ) → difference_from start (trace_text names told ++ more) ≡ difference_from now more

pub none_compared : (start now : Progress) (names : Names) (told : List Entry) → now ≡ start → told ≡ [] → IsCompared start now names told
none_compared start now names told same none = λ more.
    ap (λ (l : List Entry). difference_from start (trace_text names l ++ more)) none
    ∙ ap (λ (t : List ℕ). difference_from start (t ++ more)) (text_none names)
    ∙ ap (λ (p : Progress). difference_from p more) (sym same)

-- the text of a piece more
pub text_more : (names own : Names) (next told items : List Entry) (more : List ℕ) → own ≡ names → next ≡ told ++ items
    → trace_text names next ++ more ≡ trace_text names told ++ (trace_text own items ++ more)
text_more names own next told items more same is =
    ap (λ (l : List Entry). trace_text names l ++ more) is
    ∙ ap (λ (t : List ℕ). t ++ more) (text_append names told items)
    ∙ append_assoc (trace_text names told) (trace_text names items) more
    ∙ ap (λ (n : Names). trace_text names told ++ (trace_text n items ++ more)) (sym same)

pub piece_compared : (start before after : Progress) (names own : Names) (next told items : List Entry) → own ≡ names → next ≡ told ++ items → IsCompared start before names told
    → IsCompared before after own items → IsCompared start after names next
piece_compared start before after names own next told items same is first put = λ more.
    ap (difference_from start) (text_more names own next told items more same is) ∙ first (trace_text own items ++ more) ∙ put more

-- where a piece differs the whole does, in the same line
pub piece_differs : (start before : Progress) (names own : Names) (whole next told items rest : List Entry) (o : Option ℕ) → own ≡ names → whole ≡ next ++ rest
    → next ≡ told ++ items → IsCompared start before names told → ((more : List ℕ) → difference_from before (trace_text own items ++ more) ≡ o)
    → difference_from start (trace_text names whole) ≡ o
piece_differs start before names own whole next told items rest o same split is first put =
    ap (difference_from start) (ap (trace_text names) split ∙ text_append names next rest ∙ text_more names own next told items (trace_text names rest) same is)
    ∙ first (trace_text own items ++ trace_text names rest) ∙ put (trace_text names rest)

-- at the end all of it is compared
pub end_compared : (start now : Progress) (names : Names) (whole told : List Entry) → told ≡ whole → IsCompared start now names told
    → difference_from start (trace_text names whole) ≡ difference_from now []
end_compared start now names whole told same is =
    ap (λ (l : List Entry). difference_from start (trace_text names l)) (sym same)
    ∙ ap (difference_from start) (sym (append-nil (trace_text names told))) ∙ is []

-- and is judged so
pub piece_judged : (X Y : Type 0) (start before : Progress) (names own : Names) (whole next told items rest : List Entry) (e : AuditFault) → own ≡ names → whole ≡ next ++ rest
    → next ≡ told ++ items → IsCompared start before names told
    → OnDiffers {X = X} (Err e) (λ line. (more : List ℕ) → difference_from before (trace_text own items ++ more) ≡ Some line)
    → Judges {X = Y} (Err e) (difference_from start (trace_text names whole))
piece_judged X Y start before names own whole next told items rest (faults.Differs line) same split is first put =
    piece_differs start before names own whole next told items rest (Some line) same split is first put
piece_judged X Y start before names own whole next told items rest faults.Memory same split is first put = tt
