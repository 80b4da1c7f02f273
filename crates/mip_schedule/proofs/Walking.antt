-- One line more of a text.
use Rattle.std.proofs.Common.{◌≡◌, ℕ, ◌+◌, ◌<◌, List, [], ◌∷◌, ◌++◌, length, Bool, true, false, cond, refl, sym, ap, ◌∙◌, subst, zero-add, arith}
use Rattle.std.specs.Prelude.{Option, Some, None, Result, Ok, Err}
use Rattle.std.specs.List.{sum_by}
use Rattle.std.proofs.lemmas.List.Sums.{sum_by-append}
use Rattle.mip_words.specs.Steps.{◌>>=◌}
use Rattle.mip_lines.specs.Cutting.{parts, fields_of, rows_of}
use Rattle.mip_lines.proofs.TextRows.{some_row, rows_step, rows_end, full_line}
use Rattle.mip_schedule.specs.Declarings.{next_of}
use Rattle.mip_schedule.specs.DeclarationTimes.{declaration_line}
use Rattle.mip_schedule.specs.EventTimes.{event_line, timed_line, waited, carried, wait_of, carry_of}
use Rattle.mip_schedule.specs.Faults.{Wrong, GivesText}
use Rattle.mip_schedule.specs.Reading.{at_line, bad_form, headed, head_field, is_run, Declared, declarations_of, last_row, events_of}
use Rattle.mip_symbols.specs.declared.declaration.Declaration.{Declaration}
use Rattle.mip_schedule.specs.declared.event.Event.{Event}
use Rattle.mip_symbols.specs.declared.reason.Reason.{Reason}
use Rattle.mip_schedule.specs.declared.fault.ScheduleFault.{ScheduleFault}
use Rattle.mip_schedule.specs.declared.fault.ScheduleFault.TheVariants.{Bad, Memory}

-- a step that went well is gone past
pub goes_on : {A B E : Type 0} (whole : Result B E) (r : Result A E) (f : A → Result B E) (x : A) → whole ≡ (r >>= f) → r ≡ Ok x → f x ≡ whole
goes_on whole r f x e is = sym (e ∙ ap (λ (s : Result _ _). s >>= f) is)

-- a fault of the first step is the fault of the whole
pub gives_fault : {X Y A B : Type 0} (v : X → A) (w : Y → B) (fault : ScheduleFault) (r : Result A Wrong) (f : A → Result B Wrong) (whole : Result B Wrong)
    → GivesText {X = X} {Y = A} v (Err fault) r → whole ≡ (r >>= f) → GivesText {X = Y} {Y = B} w (Err fault) whole
gives_fault v w (Bad line why) r f whole gives e = e ∙ ap (λ (s : Result _ Wrong). s >>= f) gives
gives_fault v w Memory r f whole gives e = tt

pub head_step : (word : List ℕ) (n : ℕ) (text row more : List ℕ) → parts 10 text ≡ row ∷ parts 10 more
    → head_field word n (rows_of text) ≡ (at_line n (headed word (fields_of row)) >>= (λ field. Ok (field, rows_of more)))
unfolding head_field
head_step word n text row more e =
    let s = some_row more in
    ap (head_field word n) (rows_step text row more e)
    ∙ subst (λ (rows : List (List (List ℕ))). head_field word n (fields_of row ∷ rows) ≡ (at_line n (headed word (fields_of row)) >>= (λ field. Ok (field, rows)))) (sym s.2) refl

pub head_end : (word : List ℕ) (n : ℕ) (text : List ℕ) → parts 10 text ≡ text ∷ [] → head_field word n (rows_of text) ≡ bad_form n
unfolding head_field
head_end word n text e = ap (head_field word n) (rows_end text e)

pub events_step : (numbered : Bool) (ds : List Declaration) (es : List Event) (n : ℕ) (text row more : List ℕ) → parts 10 text ≡ row ∷ parts 10 more
    → events_of numbered ds es n (rows_of text) ≡ (at_line n (event_line numbered ds es (fields_of row)) >>= (λ e. events_of numbered ds (es ++ e ∷ []) (n + 1) (rows_of more)))
unfolding events_of
events_step numbered ds es n text row more e =
    let s = some_row more in
    ap (events_of numbered ds es n) (rows_step text row more e)
    ∙ subst (λ (rows : List (List (List ℕ))). events_of numbered ds es n (fields_of row ∷ rows) ≡ (at_line n (event_line numbered ds es (fields_of row)) >>= (λ e. events_of numbered ds (es ++ e ∷ []) (n + 1) rows))) (sym s.2) refl

-- the same with the sums of the events so far
pub timed_step : (numbered : Bool) (ds : List Declaration) (es : List Event) (count waits carries n : ℕ) (text row more : List ℕ) (whole : Result (List Event) Wrong)
    → count ≡ length es → waits ≡ waited es → carries ≡ carried es → parts 10 text ≡ row ∷ parts 10 more → events_of numbered ds es n (rows_of text) ≡ whole
    → whole ≡ (at_line n (timed_line numbered ds count waits carries (fields_of row)) >>= (λ e. events_of numbered ds (es ++ e ∷ []) (n + 1) (rows_of more)))
timed_step numbered ds es count waits carries n text row more whole ec ew ek e so_far = rw (ec, ew, ek) (sym so_far ∙ events_step numbered ds es n text row more e)

pub waited_more : (es : List Event) (e : Event) → waited (es ++ e ∷ []) ≡ waited es + wait_of e
unfolding waited
waited_more es e = sum_by-append wait_of es (e ∷ []) ∙ ap (λ (n : ℕ). sum_by wait_of es + n) (zero-add (wait_of e))

pub carried_more : (es : List Event) (e : Event) → carried (es ++ e ∷ []) ≡ carried es + carry_of e
unfolding carried
carried_more es e = sum_by-append carry_of es (e ∷ []) ∙ ap (λ (n : ℕ). sum_by carry_of es + n) (zero-add (carry_of e))

pub events_end : (numbered : Bool) (ds : List Declaration) (es : List Event) (n : ℕ) (text : List ℕ) → parts 10 text ≡ text ∷ [] → events_of numbered ds es n (rows_of text) ≡ last_row n es (fields_of text)
unfolding events_of
events_end numbered ds es n text e = ap (events_of numbered ds es n) (rows_end text e)

-- nothing behind the last line end
pub last_empty : (n : ℕ) (es : List Event) (text : List ℕ) → length text ≡ 0 → last_row n es (fields_of text) ≡ Ok es
unfolding parts
last_empty n es [] none = refl
last_empty n es (c ∷ text) none = absurd (omega arith)

-- something behind the last line end
pub last_full : (n : ℕ) (es : List Event) (text : List ℕ) → 0 < length text → last_row n es (fields_of text) ≡ bad_form n
last_full n es text some = full_line (last_row n es) (bad_form n) (λ c field fields. refl) (λ field fields. refl) text some

-- what follows a line of declarations
abbrev pub following : List Declaration → ℕ → List (List (List ℕ)) → Option Declaration → Result Declared Wrong
following ds n rows None = Ok (record { declarations = ds; line = n + 1; rows = rows })
following ds n rows (Some d) = declarations_of (ds ++ d ∷ []) (n + 1) rows

pub declarations_step : (ds : List Declaration) (n : ℕ) (text row more : List ℕ) → parts 10 text ≡ row ∷ parts 10 more
    → declarations_of ds n (rows_of text) ≡ (next_of ds n (fields_of row) >>= following ds n (rows_of more))
unfolding declarations_of next_of
declarations_step ds n text row more e =
    let s = some_row more in
    ap (declarations_of ds n) (rows_step text row more e)
    ∙ subst (λ (rows : List (List (List ℕ))). declarations_of ds n (fields_of row ∷ rows) ≡ (next_of ds n (fields_of row) >>= following ds n rows)) (sym s.2)
    (by (is_run (fields_of row)) (at_line n (declaration_line ds (fields_of row))) s.0 s.1)
  where
    by : (run : Bool) (r : Result Declaration Wrong) (f : List (List ℕ)) (rest : List (List (List ℕ)))
        → cond run (Ok (record { declarations = ds; line = n + 1; rows = f ∷ rest })) (r >>= (λ d. declarations_of (ds ++ d ∷ []) (n + 1) (f ∷ rest)))
        ≡ (cond run (Ok None) (r >>= (λ d. Ok (Some d))) >>= following ds n (f ∷ rest))
    by true r f rest = refl
    by false (Ok d) f rest = refl
    by false (Err w) f rest = refl

pub declarations_end : (ds : List Declaration) (n : ℕ) (text : List ℕ) → parts 10 text ≡ text ∷ [] → declarations_of ds n (rows_of text) ≡ bad_form n
unfolding declarations_of
declarations_end ds n text e = ap (declarations_of ds n) (rows_end text e)

pub none_waited : waited [] ≡ 0
unfolding waited
none_waited = refl

pub none_carried : carried [] ≡ 0
unfolding carried
none_carried = refl

-- one line of declarations, after those that a slice holds
pub declared_step : (ds slice : List Declaration) (n : ℕ) (text row more : List ℕ) (whole : Result Declared Wrong) → slice ≡ ds → parts 10 text ≡ row ∷ parts 10 more
    → declarations_of ds n (rows_of text) ≡ whole → whole ≡ (next_of slice n (fields_of row) >>= following ds n (rows_of more))
declared_step ds slice n text row more whole same e so_far = rw same (sym so_far ∙ declarations_step ds n text row more e)

pub head_found : (word : List ℕ) (n : ℕ) (text row more : List ℕ) (items : List (List ℕ)) (field : List ℕ) → parts 10 text ≡ row ∷ parts 10 more → items ≡ fields_of row
    → headed word items ≡ Ok field → head_field word n (rows_of text) ≡ Ok (field, rows_of more)
head_found word n text row more items field e same is =
    head_step word n text row more e ∙ ap (λ (r : Result (List ℕ) Reason). at_line n r >>= (λ f. Ok (f, rows_of more))) (ap (headed word) (sym same) ∙ is)

pub head_bad : (word : List ℕ) (n : ℕ) (text row more : List ℕ) (items : List (List ℕ)) (why : Reason) → parts 10 text ≡ row ∷ parts 10 more → items ≡ fields_of row
    → headed word items ≡ Err why → head_field word n (rows_of text) ≡ Err (record { line = n; why = why })
head_bad word n text row more items why e same is =
    head_step word n text row more e ∙ ap (λ (r : Result (List ℕ) Reason). at_line n r >>= (λ f. Ok (f, rows_of more))) (ap (headed word) (sym same) ∙ is)
