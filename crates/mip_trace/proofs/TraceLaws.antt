-- A trace that is read is the text of the entries read; a text of entries of the declarations is read as these; and the
-- line that is answered as bad is the first that is.
use Rattle.std.proofs.Common.{◌≡◌, ℕ, ◌+◌, List, [], ◌∷◌, ◌++◌, length, true, refl, sym, ap, ◌∙◌, subst, append_assoc, arith}
use Rattle.std.specs.Prelude.{Some, Result, Ok, Err, map}
use Rattle.std.specs.List.{AllByRecursion, list_all}
use Rattle.std.proofs.lemmas.Bool.{and_from}
use Rattle.std.proofs.lemmas.List.{append-nil}
use Rattle.mip_words.specs.Steps.{◌>>=◌}
use Rattle.mip_words.proofs.StepLaws.{bind_ok, ok_is}
use Rattle.mip_lines.specs.Cutting.{rows_of}
use Rattle.mip_lines.specs.Lines.{lines_text}
use Rattle.mip_lines.specs.LinesLaws.{is_row}
use Rattle.mip_lines.proofs.LineLaws.{text-spelled, text-again}
use Rattle.mip_lines.proofs.TextRows.{end_row, some_row}
use Rattle.mip_schedule.proofs.TextLaws.{one_more}
use Rattle.mip_symbols.specs.Places.{AreFew, NamesFound}
use Rattle.mip_symbols.specs.declared.declaration.Declaration.{Declaration}
use Rattle.mip_entries.specs.declared.entry.Entry.{Entry}
use Rattle.mip_trace.specs.EntryReading.{entry_of}
use Rattle.mip_trace.specs.Lines.{entry_row, trace_text}
use Rattle.mip_trace.specs.Ranges.{IsOf, IsLineOf, BeginsBad, IsTraceOf, IsFirstBad}
use Rattle.mip_trace.specs.Reading.{at_line, last_row, entries_of, reading}
use Rattle.mip_symbols.specs.declared.reason.Reason.{Reason}
use Rattle.mip_trace.proofs.EntryAgain.{entry-read, entry-again, entry-plain}

at_line_ok : {A : Type 0} (n : ℕ) (r : Result A Reason) (x : A) → at_line n r ≡ Ok x → r ≡ Ok x
at_line_ok n (Ok y) x e = ap (λ z. Ok z) (ok_is y x e)
at_line_ok n (Err b) x e = absurd cc

-- these entries were read behind es, from these lines to the end
record AreRead (ds : List Declaration) (es : List Entry) (rows : List (List (List ℕ))) (out : List Entry) : Type 0 where
  news : List Entry
  whole : out ≡ es ++ news
  spelled : rows ≡ map (entry_row (Some ds)) news ++ end_row ∷ []
  within : AllByRecursion (IsOf ds) news

last-read : (ds : List Declaration) (n : ℕ) (es : List Entry) (row : List (List ℕ)) (out : List Entry) → last_row n es row ≡ Ok out → AreRead ds es (row ∷ []) out
last-read ds n es [] out e = absurd cc
last-read ds n es ([] ∷ []) out e = record { news = []; whole = sym (ok_is es out e) ∙ sym (append-nil es); spelled = refl; within = tt }
last-read ds n es ([] ∷ f ∷ fs) out e = absurd cc
last-read ds n es ((c ∷ cs) ∷ fs) out e = absurd cc

entries-read : (ds : List Declaration) → AreFew ds → (rows : List (List (List ℕ))) (es : List Entry) (n : ℕ) (out : List Entry) → entries_of ds es n rows ≡ Ok out → AreRead ds es rows out
unfolding entries_of
entries-read ds few [] es n out e = absurd cc
entries-read ds few (row ∷ []) es n out e = last-read ds n es row out e
entries-read ds few (row ∷ next ∷ rows) es n out e =
    let p = bind_ok (at_line n (entry_of ds row)) (λ x. entries_of ds (es ++ x ∷ []) (n + 1) (next ∷ rows)) out e in
    let line : IsLineOf ds row p.0 = entry-read ds few row p.0 (at_line_ok n (entry_of ds row) p.0 p.1) in
    let more = entries-read ds few (next ∷ rows) (es ++ p.0 ∷ []) (n + 1) out p.2 in
    record {
      news = p.0 ∷ more.news;
      whole = one_more es p.0 more.news out more.whole;
      spelled = ap (λ (r : List (List ℕ)). r ∷ next ∷ rows) line.0 ∙ ap (λ (rs : List (List (List ℕ))). entry_row (Some ds) p.0 ∷ rs) more.spelled;
      within = (line.1, more.within);
    }

-- what is read is the text of what was read
pub trace-read : (ds : List Declaration) → AreFew ds → (text : List ℕ) (out : List Entry) → reading ds text ≡ Ok out → IsTraceOf ds out text
unfolding reading trace_text
trace-read ds few text out e =
    let r = entries-read ds few (rows_of text) [] 1 out e in
    let same : out ≡ r.news = r.whole in
    (subst (AllByRecursion (IsOf ds)) (sym same) r.within, text-spelled text (map (entry_row (Some ds)) r.news) r.spelled ∙ ap (λ (h : List Entry). lines_text (map (entry_row (Some ds)) h)) (sym same))

rest_some : (ds : List Declaration) (h : List Entry) → (next : List (List ℕ)) × (more : List (List (List ℕ))) × (map (entry_row (Some ds)) h ++ end_row ∷ [] ≡ next ∷ more)
rest_some ds [] = (end_row, [], refl)
rest_some ds (e ∷ h) = (entry_row (Some ds) e, map (entry_row (Some ds)) h ++ end_row ∷ [], refl)

entries_step : (ds : List Declaration) (es : List Entry) (n : ℕ) (row : List (List ℕ)) (rest : List (List (List ℕ))) (next : List (List ℕ)) (more : List (List (List ℕ))) → rest ≡ next ∷ more
    → entries_of ds es n (row ∷ rest) ≡ (at_line n (entry_of ds row) >>= (λ e. entries_of ds (es ++ e ∷ []) (n + 1) rest))
unfolding entries_of
entries_step ds es n row rest next more e =
    subst (λ (rs : List (List (List ℕ))). entries_of ds es n (row ∷ rs) ≡ (at_line n (entry_of ds row) >>= (λ e. entries_of ds (es ++ e ∷ []) (n + 1) rs))) (sym e) refl

entries-again : (ds : List Declaration) → AreFew ds → NamesFound ds → (h : List Entry) → AllByRecursion (IsOf ds) h → (es : List Entry) (n : ℕ)
    → entries_of ds es n (map (entry_row (Some ds)) h ++ end_row ∷ []) ≡ Ok (es ++ h)
unfolding entries_of
entries-again ds few found [] are es n = ap (λ (l : List Entry). Ok l) (sym (append-nil es))
entries-again ds few found (e ∷ h) are es n =
    let s = rest_some ds h in
    let rest : List (List (List ℕ)) = map (entry_row (Some ds)) h ++ end_row ∷ [] in
    entries_step ds es n (entry_row (Some ds) e) rest s.0 s.1 s.2
    ∙ ap (λ (r : Result Entry Reason). at_line n r >>= (λ x. entries_of ds (es ++ x ∷ []) (n + 1) rest)) (entry-again ds few found e are.0)
    ∙ entries-again ds few found h are.1 (es ++ e ∷ []) (n + 1)
    ∙ ap (λ (l : List Entry). Ok l) (append_assoc es (e ∷ []) h)

rows_plain : (ds : List Declaration) → AreFew ds → NamesFound ds → (h : List Entry) → AllByRecursion (IsOf ds) h → list_all is_row (map (entry_row (Some ds)) h) ≡ true
rows_plain ds few found [] are = refl
rows_plain ds few found (e ∷ h) are = and_from _ _ (entry-plain ds few found e are.0) (rows_plain ds few found h are.1)

-- the text of entries of the declarations is read as these
pub trace-again : (ds : List Declaration) → AreFew ds → NamesFound ds → (h : List Entry) (text : List ℕ) → IsTraceOf ds h text → reading ds text ≡ Ok h
unfolding reading trace_text
trace-again ds few found h text is =
    ap (λ (t : List ℕ). entries_of ds [] 1 (rows_of t)) is.1
    ∙ ap (entries_of ds [] 1) (text-again (map (entry_row (Some ds)) h) (rows_plain ds few found h is.0))
    ∙ entries-again ds few found h is.0 [] 1

-- behind es, the line k is the first that is bad
record IsBadBehind (ds : List Declaration) (n k : ℕ) (rows : List (List (List ℕ))) : Type 0 where
  good : List Entry
  rest : List (List (List ℕ))
  within : AllByRecursion (IsOf ds) good
  cut : rows ≡ map (entry_row (Some ds)) good ++ rest
  number : k ≡ n + length good
  bad : BeginsBad ds rest

last-bad : (ds : List Declaration) (n k : ℕ) (es : List Entry) (row : List (List ℕ)) → last_row n es row ≡ Err k → (k ≡ n) × (row ≡ end_row → ⊥)
last-bad ds n k es [] e = (cc, λ is. absurd cc)
last-bad ds n k es ([] ∷ []) e = absurd cc
last-bad ds n k es ([] ∷ f ∷ fs) e = (cc, λ is. absurd cc)
last-bad ds n k es ((c ∷ cs) ∷ fs) e = (cc, λ is. absurd cc)

abbrev bad_line : {A : Type 0} → Reason → Result A Reason
bad_line b = Err b

no_entry : {A : Type 0} (b : Reason) (x : A) → bad_line {A = A} b ≡ Ok x → ⊥
no_entry b x e = absurd cc

-- a line that is bad is the first, where those before it are the lines of entries
bad_here : (ds : List Declaration) → AreFew ds → NamesFound ds → (row next : List (List ℕ)) (rows : List (List (List ℕ))) (n k : ℕ) (b : Reason) → entry_of ds row ≡ Err b → k ≡ n
    → IsBadBehind ds n k (row ∷ next ∷ rows)
bad_here ds few found row next rows n k b is same = record {
  good = [];
  rest = row ∷ next ∷ rows;
  within = tt;
  cut = refl;
  number = same ∙ omega arith;
  bad = λ entry line. no_entry b entry (sym is ∙ ap (entry_of ds) line.0 ∙ entry-again ds few found entry line.1);
}

-- and the line of an entry lets the line behind it be so
bad_behind : (ds : List Declaration) → AreFew ds → (row : List (List ℕ)) (rows : List (List (List ℕ))) (n k : ℕ) (x : Entry) → entry_of ds row ≡ Ok x → IsBadBehind ds (n + 1) k rows → IsBadBehind ds n k (row ∷ rows)
bad_behind ds few row rows n k x is more =
    let line : IsLineOf ds row x = entry-read ds few row x is in
    record {
      good = x ∷ more.good;
      rest = more.rest;
      within = (line.1, more.within);
      cut = ap (λ (r : List (List ℕ)). r ∷ rows) line.0 ∙ ap (λ (rs : List (List (List ℕ))). entry_row (Some ds) x ∷ rs) more.cut;
      number = omega (arith, more.number);
      bad = more.bad;
    }

err_at : (n k : ℕ) (b : Reason) (f : Entry → Result (List Entry) ℕ) → (at_line n (Err b) >>= f) ≡ Err k → k ≡ n
err_at n k b f e = cc

entries-bad : (ds : List Declaration) → AreFew ds → NamesFound ds → (row : List (List ℕ)) (rows : List (List (List ℕ))) (es : List Entry) (n k : ℕ)
    → entries_of ds es n (row ∷ rows) ≡ Err k → IsBadBehind ds n k (row ∷ rows)
unfolding entries_of
entries-bad ds few found row [] es n k e =
    let last = last-bad ds n k es row e in
    record { good = []; rest = row ∷ []; within = tt; cut = refl; number = last.0 ∙ omega arith; bad = last.1 }
entries-bad ds few found row (next ∷ rows) es n k e =
    by (entry_of ds row) refl (λ x. entries-bad ds few found next rows (es ++ x ∷ []) (n + 1) k) e
  where
    by : (r : Result Entry Reason) → entry_of ds row ≡ r → ((x : Entry) → entries_of ds (es ++ x ∷ []) (n + 1) (next ∷ rows) ≡ Err k → IsBadBehind ds (n + 1) k (next ∷ rows))
        → (at_line n r >>= (λ x. entries_of ds (es ++ x ∷ []) (n + 1) (next ∷ rows))) ≡ Err k → IsBadBehind ds n k (row ∷ next ∷ rows)
    by (Err b) is more e = bad_here ds few found row next rows n k b is (err_at n k b (λ x. entries_of ds (es ++ x ∷ []) (n + 1) (next ∷ rows)) e)
    by (Ok x) is more e = bad_behind ds few row (next ∷ rows) n k x is (more x e)

rows_bad : (ds : List Declaration) → AreFew ds → NamesFound ds → (rows : List (List (List ℕ))) (row : List (List ℕ)) (more : List (List (List ℕ))) (k : ℕ) → rows ≡ row ∷ more
    → entries_of ds [] 1 rows ≡ Err k → IsFirstBad ds k rows
rows_bad ds few found rows row more k is e =
    let b = entries-bad ds few found row more [] 1 k (sym (ap (entries_of ds [] 1) is) ∙ e) in
    record { good = b.good; rest = b.rest; within = b.within; cut = is ∙ b.cut; number = b.number; bad = b.bad }

-- the line that a reading answers is the first that is bad
pub trace-bad : (ds : List Declaration) → AreFew ds → NamesFound ds → (text : List ℕ) (k : ℕ) → reading ds text ≡ Err k → IsFirstBad ds k (rows_of text)
unfolding reading
trace-bad ds few found text k e =
    let s = some_row text in
    rows_bad ds few found (rows_of text) s.0 s.1 k s.2 e
