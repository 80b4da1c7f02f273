-- One line more of a text, and what stands behind its last line end.
use Rattle.std.proofs.Common.{◌≡◌, ℕ, ◌+◌, ◌<◌, List, [], ◌∷◌, length, refl, sym, ap, ◌∙◌, subst}
use Rattle.std.specs.Prelude.{Result, Ok, Err}
use Rattle.mip_words.specs.Steps.{◌>>=◌}
use Rattle.mip_words.proofs.StepLaws.{bind_ok, ok_is}
use Rattle.mip_lines.specs.Cutting.{fields_of, rows_of}
use Rattle.mip_lines.proofs.TextRows.{some_row, empty_line, full_line}
use Rattle.mip_symbols.specs.declared.reason.Reason.{Reason}
use Rattle.mip_schedule.specs.declared.fault.ScheduleFault.{ScheduleFault}
use Rattle.mip_schedule.specs.declared.fault.ScheduleFault.TheVariants.{Bad, Memory}
use Rattle.mip_schedule.specs.Faults.{Wrong}
use Rattle.mip_schedule.specs.Reading.{at_line, bad_form}
use Rattle.mip_drafts.specs.Walk.{Walked, ended, walk}
use Rattle.mip_drafts.specs.Adding.{IsRead, IsWalked}

walk_step : {S : Type 0} (onto : S → List (List ℕ) → Result S Reason) (draft : S) (n : ℕ) (text : List ℕ) (row : List (List ℕ)) (more : List ℕ) → rows_of text ≡ row ∷ rows_of more
    → walk onto draft n (rows_of text) ≡ (at_line n (onto draft row) >>= (λ d. walk onto d (n + 1) (rows_of more)))
unfolding walk
walk_step onto draft n text row more e =
    let s = some_row more in
    ap (walk onto draft n) e
    ∙ subst (λ (rows : List (List (List ℕ))). walk onto draft n (row ∷ rows) ≡ (at_line n (onto draft row) >>= (λ d. walk onto d (n + 1) rows))) (sym s.2) refl

-- a line was added
pub goes_on : {S : Type 0} (onto : S → List (List ℕ) → Result S Reason) (draft new : S) (n line : ℕ) (text : List ℕ) (row : List (List ℕ)) (more : List ℕ) (whole : Result (Walked S) Wrong)
    → rows_of text ≡ row ∷ rows_of more → line ≡ n + 1 → onto draft row ≡ Ok new
    → walk onto draft n (rows_of text) ≡ whole → walk onto new line (rows_of more) ≡ whole
goes_on onto draft new n line text row more whole e next is so_far =
    ap (λ (k : ℕ). walk onto new k (rows_of more)) next
    ∙ sym (ap (λ (r : Result _ Reason). at_line n r >>= (λ d. walk onto d (n + 1) (rows_of more))) is)
    ∙ sym (walk_step onto draft n text row more e) ∙ so_far

-- a line is bad
pub stops : {S : Type 0} (onto : S → List (List ℕ) → Result S Reason) (draft new : S) (n : ℕ) (text : List ℕ) (row : List (List ℕ)) (more : List ℕ) (fault : ScheduleFault) (whole : Result (Walked S) Wrong)
    → rows_of text ≡ row ∷ rows_of more → IsRead {U = Unit {0}} n new (Err fault) (onto draft row)
    → walk onto draft n (rows_of text) ≡ whole → IsWalked new (Err fault) whole
stops onto draft new n text row more (Bad line why) whole e gives so_far =
    sym so_far ∙ walk_step onto draft n text row more e
    ∙ ap (λ (r : Result _ Reason). at_line n r >>= (λ d. walk onto d (n + 1) (rows_of more))) gives.1
    ∙ ap (λ (k : ℕ). bad k why) (sym gives.0)
  where
    bad : {S : Type 0} → ℕ → Reason → Result (Walked S) Wrong
    bad k why = Err (record { line = k; why = why })
stops onto draft new n text row more Memory whole e gives so_far = tt

-- a text without a line end is one row
last : {S : Type 0} (onto : S → List (List ℕ) → Result S Reason) (draft : S) (n : ℕ) (text : List ℕ) → rows_of text ≡ fields_of text ∷ []
    → walk onto draft n (rows_of text) ≡ ended draft n (fields_of text)
unfolding walk
last onto draft n text e = ap (walk onto draft n) e

-- nothing behind the last line end
pub ends : {S : Type 0} (onto : S → List (List ℕ) → Result S Reason) (draft : S) (n : ℕ) (text : List ℕ) (whole : Result (Walked S) Wrong) → rows_of text ≡ fields_of text ∷ []
    → length text ≡ 0 → walk onto draft n (rows_of text) ≡ whole → whole ≡ Ok (record { draft = draft; line = n })
ends onto draft n text whole e none so_far = sym so_far ∙ last onto draft n text e ∙ ap (ended draft n) (empty_line text none)

-- something behind the last line end
pub left_over : {S : Type 0} (onto : S → List (List ℕ) → Result S Reason) (draft : S) (n : ℕ) (text : List ℕ) (whole : Result (Walked S) Wrong) → rows_of text ≡ fields_of text ∷ []
    → 0 < length text → walk onto draft n (rows_of text) ≡ whole → whole ≡ bad_form n
left_over onto draft n text whole e some so_far = sym so_far ∙ last onto draft n text e ∙ full_line (ended draft n) (bad_form n) (λ c field fields. refl) (λ field fields. refl) text some

-- what each line keeps is kept by all of them
pub walk_keeps : {S : Type 0} (onto : S → List (List ℕ) → Result S Reason) (P : S → Type 0) → ((d : S) (row : List (List ℕ)) (e : S) → onto d row ≡ Ok e → P d → P e)
    → (draft : S) (n : ℕ) (rows : List (List (List ℕ))) (w : Walked S) → walk onto draft n rows ≡ Ok w → P draft → P w.draft
unfolding walk
walk_keeps {S} onto P keeps draft n [] w e holds = absurd cc
walk_keeps {S} onto P keeps draft n (row ∷ []) w e holds = by row w e
  where
    by : (row : List (List ℕ)) (w : Walked S) → ended draft n row ≡ Ok w → P w.draft
    by [] w e = absurd cc
    by ([] ∷ []) w e = subst (λ (v : Walked S). P v.draft) (ok_is _ w e) holds
    by ((c ∷ field) ∷ fields) w e = absurd cc
    by ([] ∷ field ∷ fields) w e = absurd cc
walk_keeps {S} onto P keeps draft n (row ∷ next ∷ rows) w e holds =
    let s = bind_ok (at_line n (onto draft row)) (λ more. walk onto more (n + 1) (next ∷ rows)) w e in
    walk_keeps onto P keeps s.0 (n + 1) (next ∷ rows) w s.2 (keeps draft row s.0 (good (onto draft row) s.0 s.1) holds)
  where
    good : (r : Result S Reason) (x : S) → at_line n r ≡ Ok x → r ≡ Ok x
    good (Ok y) x e = cc
    good (Err why) x e = absurd cc
