-- Over the lines of a trace, one after another.
use Rattle.std.proofs.Common.{◌≡◌, ℕ, ◌+◌, ◌<◌, List, [], ◌∷◌, ◌++◌, length, true, refl, sym, ap, ◌∙◌, subst, arith}
use Rattle.std.specs.Prelude.{Result, Ok, Err, map, ◌==◌}
use Rattle.std.proofs.lemmas.Bool.{eqb-true}
use Rattle.mip_words.specs.Steps.{◌>>=◌}
use Rattle.mip_lines.specs.Cutting.{parts, fields_of, rows_of}
use Rattle.mip_lines.proofs.TextRows.{some_row, full_line}
use Rattle.mip_symbols.specs.declared.declaration.Declaration.{Declaration}
use Rattle.mip_entries.specs.declared.entry.Entry.{Entry}
use Rattle.mip_symbols.specs.declared.reason.Reason.TheVariants as reasons
use Rattle.mip_trace.specs.EntryLines.{entry_words}
use Rattle.mip_trace.specs.EntryReading.{entry_of}
use Rattle.mip_trace.specs.Faults.{GivesText}
use Rattle.mip_trace.specs.Reading.{at_line, last_row, entries_of}
use Rattle.mip_trace.specs.declared.fault.TraceFault.{TraceFault}
use Rattle.mip_trace.specs.declared.fault.TraceFault.TheVariants as faults

pub entries_step : (ds : List Declaration) (es : List Entry) (n : ℕ) (text row more : List ℕ) (whole : Result (List Entry) ℕ) → parts 10 text ≡ row ∷ parts 10 more
    → entries_of ds es n (rows_of text) ≡ whole → whole ≡ (at_line n (entry_of ds (fields_of row)) >>= (λ e. entries_of ds (es ++ e ∷ []) (n + 1) (rows_of more)))
unfolding entries_of
entries_step ds es n text row more whole e so_far =
    let s = some_row more in
    sym so_far
    ∙ ap (λ (ps : List (List ℕ)). entries_of ds es n (map fields_of ps)) e
    ∙ subst (λ (rows : List (List (List ℕ))). entries_of ds es n (fields_of row ∷ rows) ≡ (at_line n (entry_of ds (fields_of row)) >>= (λ e. entries_of ds (es ++ e ∷ []) (n + 1) rows))) (sym s.2) refl

pub entries_end : (ds : List Declaration) (es : List Entry) (n : ℕ) (text : List ℕ) → parts 10 text ≡ text ∷ [] → entries_of ds es n (rows_of text) ≡ last_row n es (fields_of text)
unfolding entries_of
entries_end ds es n text e = ap (λ (ps : List (List ℕ)). entries_of ds es n (map fields_of ps)) e

-- nothing behind the last line end
pub last_empty : (n : ℕ) (es : List Entry) (text : List ℕ) → length text ≡ 0 → last_row n es (fields_of text) ≡ Ok es
unfolding parts
last_empty n es [] none = refl
last_empty n es (c ∷ text) none = absurd (omega arith)

-- something behind the last line end
pub last_full : (n : ℕ) (es : List Entry) (text : List ℕ) → 0 < length text → last_row n es (fields_of text) ≡ Err n
last_full n es text some = full_line (last_row n es) (Err n) (λ c field fields. refl) (λ field fields. refl) text some

-- an empty line is that of no entry
pub no_entry : (ds : List Declaration) (line : List ℕ) → length line ≡ 0 → entry_of ds (fields_of line) ≡ Err reasons.Form
unfolding parts entry_of entry_words
no_entry ds [] none = refl
no_entry ds (c ∷ line) none = absurd (omega arith)

-- what a line's fault says of the whole
pub gives_fault : {X Y : Type 0} (fault : TraceFault) (line : Result X ℕ) (f : X → Result Y ℕ) (whole : Result Y ℕ) → GivesText {X = X} (Err fault) line → whole ≡ (line >>= f) → GivesText {X = Y} (Err fault) whole
gives_fault (faults.Bad n) line f whole gives e = e ∙ ap (λ r. r >>= f) gives
gives_fault faults.Memory line f whole gives e = tt

pub goes_on : {X Y : Type 0} (whole : Result Y ℕ) (line : Result X ℕ) (f : X → Result Y ℕ) (x : X) → whole ≡ (line >>= f) → line ≡ Ok x → f x ≡ whole
goes_on whole line f x e is = sym (e ∙ ap (λ r. r >>= f) is)

-- nor is it where its line has a number
pub no_entry_at : (ds : List Declaration) (n : ℕ) (line : List ℕ) → (length line == 0) ≡ true → at_line n (entry_of ds (fields_of line)) ≡ Err n
no_entry_at ds n line none = ap (at_line n) (no_entry ds line (eqb-true (length line) 0 none))
