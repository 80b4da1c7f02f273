-- How the values of a row are read one by one.
use Rattle.std.proofs.Common.{◌≡◌, ℕ, zero, suc, ◌+◌, ◌<◌, ◌≤◌, List, [], ◌∷◌, ◌++◌, length, get_or, refl, sym, ap, ◌∙◌, append_assoc, arith}
use Rattle.std.specs.Prelude.{Result, Ok, Err, drop}
use Rattle.std.specs.Borrow.{Bor}
use Rattle.std.proofs.lemmas.List.{append-nil, length-append}
use Rattle.mip_words.specs.Steps.{◌>>=◌}
use Rattle.mip_lines.specs.Cutting.{texts}
use Rattle.mip_symbols.specs.declared.declaration.Declaration.{Declaration}
use Rattle.mip_symbols.specs.declared.reason.Reason.{Reason}
use Rattle.mip_rows.specs.Rows.{value_of, values_of}
use Rattle.mip_rows.specs.declared.field_kind.Kind.{Kind}
use Rattle.mip_rows.specs.declared.value.Value.{Value}

-- what is read behind these values
abbrev pub behind : List Value → Result (List Value) Reason → Result (List Value) Reason
behind vs r = r >>= (λ ws. Ok (vs ++ ws))

-- what is read before others
abbrev before : Result (List Value) Reason → Value → Result (List Value) Reason
before r v = r >>= (λ ws. Ok (v ∷ ws))

values_at : (ds : List Declaration) (ks : List Kind) (fs : List (Bor (List ℕ))) (i : ℕ) (k : Kind) (f : Bor (List ℕ)) → i < length ks → length fs ≡ length ks
    → values_of ds (drop i ks) (drop i (texts fs)) ≡ (value_of ds (get_or ks i k) (get_or fs i f).now >>= before (values_of ds (drop (suc i) ks) (drop (suc i) (texts fs))))
unfolding values_of
values_at ds [] fs i k f inside same = absurd (omega arith)
values_at ds (j ∷ ks) [] i k f inside same = absurd (omega arith)
values_at ds (j ∷ ks) (g ∷ fs) zero k f inside same = refl
values_at ds (j ∷ ks) (g ∷ fs) (suc i) k f inside same = values_at ds ks fs i k f (omega arith) (omega arith)

values_past : (ds : List Declaration) (ks : List Kind) (fs : List (Bor (List ℕ))) (i : ℕ) → length ks ≤ i → length fs ≡ length ks → values_of ds (drop i ks) (drop i (texts fs)) ≡ Ok []
unfolding values_of
values_past ds [] [] zero past same = refl
values_past ds [] [] (suc i) past same = refl
values_past ds [] (g ∷ fs) i past same = absurd (omega arith)
values_past ds (j ∷ ks) [] i past same = absurd (omega arith)
values_past ds (j ∷ ks) (g ∷ fs) zero past same = absurd (omega arith)
values_past ds (j ∷ ks) (g ∷ fs) (suc i) past same = values_past ds ks fs i (omega arith) (omega arith)

-- before the first field
pub values_begin : (r : Result (List Value) Reason) (vs : List Value) → vs ≡ [] → r ≡ behind vs r
values_begin (Ok ws) vs none = ap (λ (us : List Value). Ok (us ++ ws)) (sym none)
values_begin (Err why) vs none = refl

one_more : (r : Result (List Value) Reason) (vs : List Value) (v : Value) (new : List Value) → new ≡ vs ++ v ∷ [] → behind vs (before r v) ≡ behind new r
one_more (Ok ws) vs v new is = ap (λ (us : List Value). Ok us) (sym (ap (λ (us : List Value). us ++ ws) is ∙ append_assoc vs (v ∷ []) ws))
one_more (Err why) vs v new is = refl

-- a field that is refused refuses the row
pub values_refused : (ds : List Declaration) (ks : List Kind) (fs : List (Bor (List ℕ))) (i : ℕ) (k : Kind) (f : Bor (List ℕ)) (vs : List Value) (why : Reason) (whole : Result (List Value) Reason)
    → whole ≡ behind vs (values_of ds (drop i ks) (drop i (texts fs))) → i < length ks → length fs ≡ length ks → Err why ≡ value_of ds (get_or ks i k) (get_or fs i f).now → Err why ≡ whole
values_refused ds ks fs i k f vs why whole so_far inside same e =
    sym (so_far ∙ ap (behind vs) (values_at ds ks fs i k f inside same ∙ ap (λ (r : Result Value Reason). r >>= before (values_of ds (drop (suc i) ks) (drop (suc i) (texts fs)))) (sym e)))

-- and one that is read goes before the rest
pub values_more : (ds : List Declaration) (ks : List Kind) (fs : List (Bor (List ℕ))) (i : ℕ) (k : Kind) (f : Bor (List ℕ)) (vs : List Value) (v : Value) (new : List Value) (whole : Result (List Value) Reason)
    → whole ≡ behind vs (values_of ds (drop i ks) (drop i (texts fs))) → i < length ks → length fs ≡ length ks → Ok v ≡ value_of ds (get_or ks i k) (get_or fs i f).now → new ≡ vs ++ v ∷ []
    → whole ≡ behind new (values_of ds (drop (i + 1) ks) (drop (i + 1) (texts fs)))
values_more ds ks fs i k f vs v new whole so_far inside same e is =
    so_far ∙ ap (behind vs) (values_at ds ks fs i k f inside same ∙ ap (λ (r : Result Value Reason). r >>= before (values_of ds (drop (suc i) ks) (drop (suc i) (texts fs)))) (sym e))
    ∙ one_more (values_of ds (drop (suc i) ks) (drop (suc i) (texts fs))) vs v new is
    ∙ ap (λ (n : ℕ). behind new (values_of ds (drop n ks) (drop n (texts fs)))) (next i)
  where
    next : (n : ℕ) → suc n ≡ n + 1
    next n = omega arith

pub values_end : (ds : List Declaration) (ks : List Kind) (fs : List (Bor (List ℕ))) (i : ℕ) (vs : List Value) (whole : Result (List Value) Reason)
    → whole ≡ behind vs (values_of ds (drop i ks) (drop i (texts fs))) → length ks ≤ i → length fs ≡ length ks → Ok vs ≡ whole
values_end ds ks fs i vs whole so_far past same =
    sym (so_far ∙ ap (behind vs) (values_past ds ks fs i past same) ∙ ap (λ (us : List Value). Ok us) (append-nil vs))

pub counted : (vs : List Value) (v : Value) (new : List Value) (i : ℕ) → new ≡ vs ++ v ∷ [] → length vs ≡ i → length new ≡ i + 1
counted vs v new i is count = ap length is ∙ length-append vs (v ∷ []) ∙ ap (λ (n : ℕ). n + 1) count
