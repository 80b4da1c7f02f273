-- A text that is read as a schedule is the schedule's spelling.
use Rattle.std.proofs.Common.{◌≡◌, ℕ, ◌+◌, ◌≤◌, ◌^◌, List, [], ◌∷◌, ◌++◌, true, refl, sym, ap, ◌∙◌, subst, append_assoc}
use Rattle.std.specs.Prelude.{Bool, Result, Ok, Err, codes, decimal, map}
use Rattle.std.specs.Str.{bytes_eq}
use Rattle.std.proofs.lemmas.Bool.{cond_both}
use Rattle.std.proofs.lemmas.List.{append-nil}
use Rattle.std.proofs.lemmas.Slice.Eq.{bytes_eq-Decides}
use Rattle.mip_words.specs.Hex.{hex_of}
use Rattle.mip_words.specs.Steps.{◌>>=◌}
use Rattle.mip_words.proofs.StepLaws.{bind_ok, ok_is}
use Rattle.mip_lines.specs.Cutting.{rows_of}
use Rattle.mip_lines.proofs.LineLaws.{text-spelled}
use Rattle.mip_lines.proofs.TextRows.{end_row}
use Rattle.mip_schedule.specs.Contents.{Content}
use Rattle.mip_schedule.specs.DeclarationTimes.{declaration_line}
use Rattle.mip_schedule.specs.EventTimes.{event_line}
use Rattle.mip_schedule.specs.Faults.{Wrong}
use Rattle.mip_symbols.specs.Kinds as kinds
use Rattle.mip_schedule.specs.Reading.{at_line, headed, head_field, head_line, version_line, seed_line, start_line, Head, head_of, is_run, Declared, declarations_of, last_row, events_of, reading}
use Rattle.mip_schedule.specs.Spelling.{declaration_text, declaration_rows, event_text, head_rows, run_row, schedule_rows, spelling}
use Rattle.mip_schedule.specs.Versions.{is_numbered}
use Rattle.mip_symbols.specs.declared.declaration.Declaration.{Declaration}
use Rattle.mip_schedule.specs.declared.event.Event.{Event}
use Rattle.mip_symbols.specs.declared.reason.Reason.{Reason}
use Rattle.mip_schedule.proofs.DeclarationLaws.{declaration-spelled}
use Rattle.mip_schedule.proofs.EventLaws.{event-spelled}
use Rattle.mip_symbols.proofs.KindLaws.{number-spells, number-within, seed-spells, worded}

pub at_line_ok : {A : Type 0} (n : ℕ) (r : Result A Reason) (x : A) → at_line n r ≡ Ok x → r ≡ Ok x
at_line_ok n (Ok y) x e = ap (λ z. Ok z) (ok_is y x e)
at_line_ok n (Err why) x e = absurd cc

-- these events were read behind es, from these lines to the end
record IsEvents (numbered : Bool) (ds : List Declaration) (es : List Event) (rows : List (List (List ℕ))) (out : List Event) : Type 0 where
  news : List Event
  whole : out ≡ es ++ news
  spelled : rows ≡ map (event_text numbered ds) news ++ end_row ∷ []

last-spelled : (numbered : Bool) (ds : List Declaration) (n : ℕ) (es : List Event) (row : List (List ℕ)) (out : List Event) → last_row n es row ≡ Ok out → IsEvents numbered ds es (row ∷ []) out
last-spelled numbered ds n es [] out e = absurd cc
last-spelled numbered ds n es ([] ∷ []) out e = record { news = []; whole = sym (ok_is es out e) ∙ sym (append-nil es); spelled = refl }
last-spelled numbered ds n es ([] ∷ f ∷ fs) out e = absurd cc
last-spelled numbered ds n es ((c ∷ cs) ∷ fs) out e = absurd cc

pub one_more : {A : Type 0} (xs : List A) (x : A) (ys out : List A) → out ≡ (xs ++ x ∷ []) ++ ys → out ≡ xs ++ x ∷ ys
one_more xs x ys out e = e ∙ append_assoc xs (x ∷ []) ys

events-spelled : (numbered : Bool) (ds : List Declaration) (rows : List (List (List ℕ))) (es : List Event) (n : ℕ) (out : List Event) → events_of numbered ds es n rows ≡ Ok out → IsEvents numbered ds es rows out
unfolding events_of
events-spelled numbered ds [] es n out e = absurd cc
events-spelled numbered ds (row ∷ []) es n out e = last-spelled numbered ds n es row out e
events-spelled numbered ds (row ∷ next ∷ rows) es n out e =
    let p = bind_ok (at_line n (event_line numbered ds es row)) (λ x. events_of numbered ds (es ++ x ∷ []) (n + 1) (next ∷ rows)) out e in
    let line : row ≡ event_text numbered ds p.0 = event-spelled numbered ds _ _ _ row p.0 (at_line_ok n (event_line numbered ds es row) p.0 p.1) in
    let more = events-spelled numbered ds (next ∷ rows) (es ++ p.0 ∷ []) (n + 1) out p.2 in
    record {
      news = p.0 ∷ more.news;
      whole = one_more es p.0 more.news out more.whole;
      spelled = ap (λ (r : List (List ℕ)). r ∷ next ∷ rows) line ∙ ap (λ (rs : List (List (List ℕ))). event_text numbered ds p.0 ∷ rs) more.spelled;
    }

-- these declarations were read behind ds, up to `run`
record IsDeclared (ds : List Declaration) (rows : List (List (List ℕ))) (out : Declared) : Type 0 where
  news : List Declaration
  whole : out.declarations ≡ ds ++ news
  spelled : rows ≡ declaration_rows ds news ++ run_row ∷ out.rows

run_is : (row : List (List ℕ)) → is_run row ≡ true → row ≡ run_row
run_is [] e = absurd cc
run_is (word ∷ []) e = ap (λ (w : List ℕ). w ∷ []) ((bytes_eq-Decides word (codes "run")).0 e)
run_is (word ∷ f ∷ fs) e = absurd cc

declarations-spelled : (rows : List (List (List ℕ))) (ds : List Declaration) (n : ℕ) (out : Declared) → declarations_of ds n rows ≡ Ok out → IsDeclared ds rows out
unfolding declarations_of
declarations-spelled [] ds n out = λ e. absurd cc
declarations-spelled (row ∷ []) ds n out = λ e. absurd cc
declarations-spelled (row ∷ next ∷ rows) ds n out =
    cond_both (is_run row) _ _ (λ (r : Result Declared Wrong). r ≡ Ok out → IsDeclared ds (row ∷ next ∷ rows) out)
    (λ run e.
    subst (λ (d : Declared). IsDeclared ds (row ∷ next ∷ rows) d) (ok_is (record { declarations = ds; line = n + 1; rows = next ∷ rows }) out e)
    (record { news = []; whole = sym (append-nil ds); spelled = ap (λ (r : List (List ℕ)). r ∷ next ∷ rows) (run_is row run) }))
    (λ _ e.
    let p = bind_ok (at_line n (declaration_line ds row)) (λ d. declarations_of (ds ++ d ∷ []) (n + 1) (next ∷ rows)) out e in
    let line : row ≡ declaration_text ds p.0 = declaration-spelled ds row p.0 (at_line_ok n (declaration_line ds row) p.0 p.1) in
    let more = declarations-spelled (next ∷ rows) (ds ++ p.0 ∷ []) (n + 1) out p.2 in
    record {
      news = p.0 ∷ more.news;
      whole = one_more ds p.0 more.news out.declarations more.whole;
      spelled = ap (λ (r : List (List ℕ)). r ∷ next ∷ rows) line ∙ ap (λ (rs : List (List (List ℕ))). declaration_text ds p.0 ∷ rs) more.spelled;
    })

headed-spelled : (word : List ℕ) (row : List (List ℕ)) (f : List ℕ) → headed word row ≡ Ok f → row ≡ word ∷ f ∷ []
headed-spelled word [] f = λ e. absurd cc
headed-spelled word (w ∷ []) f = λ e. absurd cc
headed-spelled word (w ∷ g ∷ []) f =
    cond_both (bytes_eq w word) _ _ (λ (r : Result (List ℕ) Reason). r ≡ Ok f → w ∷ g ∷ [] ≡ word ∷ f ∷ [])
    (λ test e. worded w word (g ∷ []) (word ∷ f ∷ []) test (ap (λ (x : List ℕ). word ∷ x ∷ []) (ok_is g f e)))
    (λ _ e. absurd cc)
headed-spelled word (w ∷ g ∷ h ∷ more) f = λ e. absurd cc

head_field-spelled : (word : List ℕ) (n : ℕ) (rows : List (List (List ℕ))) (p : List ℕ × List (List (List ℕ))) → head_field word n rows ≡ Ok p → rows ≡ (word ∷ p.0 ∷ []) ∷ p.1
unfolding head_field
head_field-spelled word n [] p e = absurd cc
head_field-spelled word n (row ∷ []) p e = absurd cc
head_field-spelled word n (row ∷ next ∷ rows) p e =
    let q = bind_ok (at_line n (headed word row)) (λ field. Ok (field, next ∷ rows)) p e in
    let line : row ≡ word ∷ q.0 ∷ [] = headed-spelled word row q.0 (at_line_ok n (headed word row) q.0 q.1) in
    subst (λ (x : List ℕ × List (List (List ℕ))). row ∷ next ∷ rows ≡ (word ∷ x.0 ∷ []) ∷ x.1) (ok_is (q.0, next ∷ rows) p q.2) (ap (λ (r : List (List ℕ)). r ∷ next ∷ rows) line)

-- a line of the head was read so
record IsHeadLine {A : Type 0} (word : List ℕ) (read : List ℕ → Result A Reason) (rows : List (List (List ℕ))) (out : A × List (List (List ℕ))) : Type 0 where
  field : List ℕ
  value : read field ≡ Ok out.0
  spelled : rows ≡ (word ∷ field ∷ []) ∷ out.1

head_line-spelled : {A : Type 0} (word : List ℕ) (read : List ℕ → Result A Reason) (n : ℕ) (rows : List (List (List ℕ))) (out : A × List (List (List ℕ)))
    → head_line word read n rows ≡ Ok out → IsHeadLine word read rows out
head_line-spelled {A} word read n rows out e =
    let p = bind_ok (head_field word n rows) (λ field. at_line n (read field.0) >>= (λ x. Ok (x, field.1))) out e in
    let q = bind_ok (at_line n (read p.0.0)) (λ x. Ok (x, p.0.1)) out p.2 in
    subst (λ (o : A × List (List (List ℕ))). IsHeadLine word read rows o) (ok_is (q.0, p.0.1) out q.2)
    (record { field = p.0.0; value = at_line_ok n (read p.0.0) q.0 q.1; spelled = head_field-spelled word n rows p.0 p.1 })

version-spelled : (rows : List (List (List ℕ))) (out : ℕ × List (List (List ℕ))) → version_line 2 rows ≡ Ok out → rows ≡ (codes "mip" ∷ decimal out.0 ∷ []) ∷ out.1
unfolding version_line
version-spelled rows out e =
    let h = head_line-spelled (codes "mip") (kinds.number 1 2) 1 rows out e in
    h.spelled ∙ ap (λ (f : List ℕ). (codes "mip" ∷ f ∷ []) ∷ out.1) (number-spells 1 2 h.field out.0 h.value)

seed-spelled : (rows : List (List (List ℕ))) (out : List ℕ × List (List (List ℕ))) → seed_line rows ≡ Ok out → rows ≡ (codes "seed" ∷ hex_of out.0 ∷ []) ∷ out.1
unfolding seed_line
seed-spelled rows out e =
    let h = head_line-spelled (codes "seed") kinds.seed 2 rows out e in
    h.spelled ∙ ap (λ (f : List ℕ). (codes "seed" ∷ f ∷ []) ∷ out.1) (seed-spells h.field out.0 h.value)

start-spelled : (rows : List (List (List ℕ))) (out : ℕ × List (List (List ℕ))) → start_line rows ≡ Ok out → rows ≡ (codes "start" ∷ decimal out.0 ∷ []) ∷ out.1
unfolding start_line
start-spelled rows out e =
    let h = head_line-spelled (codes "start") (kinds.number 0 1099511627776) 3 rows out e in
    h.spelled ∙ ap (λ (f : List ℕ). (codes "start" ∷ f ∷ []) ∷ out.1) (number-spells 0 1099511627776 h.field out.0 h.value)

head-spelled : (rows : List (List (List ℕ))) (h : Head) → head_of rows ≡ Ok h → rows ≡ head_rows h.version h.seed h.start ++ h.rows
unfolding head_of
head-spelled rows h e =
    let v = bind_ok (version_line 2 rows) (λ version. seed_line version.1 >>= (λ seed. start_line seed.1 >>= (λ start. Ok (record { version = version.0; seed = seed.0; start = record { 0 = start.0 }; rows = start.1 })))) h e in
    let s = bind_ok (seed_line v.0.1) (λ seed. start_line seed.1 >>= (λ start. Ok (record { version = v.0.0; seed = seed.0; start = record { 0 = start.0 }; rows = start.1 }))) h v.2 in
    let t = bind_ok (start_line s.0.1) (λ start. Ok (record { version = v.0.0; seed = s.0.0; start = record { 0 = start.0 }; rows = start.1 })) h s.2 in
    let is : rows ≡ head_rows v.0.0 s.0.0 (record { 0 = t.0.0 }) ++ t.0.1 =
    version-spelled rows v.0 v.1
    ∙ ap (λ (r : List (List (List ℕ))). (codes "mip" ∷ decimal v.0.0 ∷ []) ∷ r) (seed-spelled v.0.1 s.0 s.1)
    ∙ ap (λ (r : List (List (List ℕ))). (codes "mip" ∷ decimal v.0.0 ∷ []) ∷ (codes "seed" ∷ hex_of s.0.0 ∷ []) ∷ r) (start-spelled s.0.1 t.0 t.1) in
    subst (λ (x : Head). rows ≡ head_rows x.version x.seed x.start ++ x.rows) (ok_is (record { version = v.0.0; seed = s.0.0; start = record { 0 = t.0.0 }; rows = t.0.1 }) h t.2) is

-- the start is within its bound
start_bound : (rows : List (List (List ℕ))) (out : ℕ × List (List (List ℕ))) → start_line rows ≡ Ok out → out.0 ≤ 1099511627776
unfolding start_line
start_bound rows out e =
    let h = head_line-spelled (codes "start") (kinds.number 0 1099511627776) 3 rows out e in
    (number-within 0 1099511627776 h.field out.0 h.value).1

version_bound : (rows : List (List (List ℕ))) (out : ℕ × List (List (List ℕ))) → version_line 2 rows ≡ Ok out → (1 ≤ out.0) × (out.0 ≤ 2)
unfolding version_line
version_bound rows out e =
    let h = head_line-spelled (codes "mip") (kinds.number 1 2) 1 rows out e in
    number-within 1 2 h.field out.0 h.value

-- the version and the start of a text that is read
pub record IsHeadWithin (h : Head) : Type 0 where
  pub version : (1 ≤ h.version) × (h.version ≤ 2)
  pub start : h.start.0 ≤ 2 ^ 40

pub head_within : (rows : List (List (List ℕ))) (h : Head) → head_of rows ≡ Ok h → IsHeadWithin h
unfolding head_of
head_within rows h e =
    let v = bind_ok (version_line 2 rows) (λ version. seed_line version.1 >>= (λ seed. start_line seed.1 >>= (λ start. Ok (record { version = version.0; seed = seed.0; start = record { 0 = start.0 }; rows = start.1 })))) h e in
    let s = bind_ok (seed_line v.0.1) (λ seed. start_line seed.1 >>= (λ start. Ok (record { version = v.0.0; seed = seed.0; start = record { 0 = start.0 }; rows = start.1 }))) h v.2 in
    let t = bind_ok (start_line s.0.1) (λ start. Ok (record { version = v.0.0; seed = s.0.0; start = record { 0 = start.0 }; rows = start.1 })) h s.2 in
    subst IsHeadWithin (ok_is (record { version = v.0.0; seed = s.0.0; start = record { 0 = t.0.0 }; rows = t.0.1 }) h t.2)
    (record { version = version_bound rows v.0 v.1; start = start_bound s.0.1 t.0 t.1 })

-- a text that is read as a schedule has the schedule's rows
rows-spelled : (text : List ℕ) (s : Content) → reading text ≡ Ok s → rows_of text ≡ schedule_rows s ++ end_row ∷ []
unfolding reading
rows-spelled text s e =
    let h = bind_ok (head_of (rows_of text)) (λ head. declarations_of [] 4 head.rows >>= (λ declared. events_of (is_numbered head.version) declared.declarations [] declared.line declared.rows >>= (λ events. Ok (record { version = head.version; seed = head.seed; start = head.start; declarations = declared.declarations; events = events })))) s e in
    let d = bind_ok (declarations_of [] 4 h.0.rows) (λ declared. events_of (is_numbered h.0.version) declared.declarations [] declared.line declared.rows >>= (λ events. Ok (record { version = h.0.version; seed = h.0.seed; start = h.0.start; declarations = declared.declarations; events = events }))) s h.2 in
    let es = bind_ok (events_of (is_numbered h.0.version) d.0.declarations [] d.0.line d.0.rows) (λ events. Ok (record { version = h.0.version; seed = h.0.seed; start = h.0.start; declarations = d.0.declarations; events = events })) s d.2 in
    let head = head-spelled (rows_of text) h.0 h.1 in
    let declared = declarations-spelled h.0.rows [] 4 d.0 d.1 in
    let events = events-spelled (is_numbered h.0.version) d.0.declarations d.0.rows [] d.0.line es.0 es.1 in
    subst (λ (x : Content). rows_of text ≡ schedule_rows x ++ end_row ∷ []) (ok_is _ s es.2)
    (joined (rows_of text) (head_rows h.0.version h.0.seed h.0.start) h.0.rows (declaration_rows [] declared.news) (declaration_rows [] d.0.declarations) d.0.rows (map (event_text (is_numbered h.0.version) d.0.declarations) events.news) (map (event_text (is_numbered h.0.version) d.0.declarations) es.0)
    head declared.spelled events.spelled (ap (declaration_rows []) (sym declared.whole)) (ap (map (event_text (is_numbered h.0.version) d.0.declarations)) (sym events.whole)))
  where
    joined : (all front behind ds ds2 last es es2 : List (List (List ℕ))) → all ≡ front ++ behind → behind ≡ ds ++ run_row ∷ last → last ≡ es ++ end_row ∷ [] → ds ≡ ds2 → es ≡ es2
        → all ≡ (front ++ (ds2 ++ run_row ∷ es2)) ++ end_row ∷ []
    joined all front behind ds ds2 last es es2 a b c p q =
        a ∙ ap (λ (x : List (List (List ℕ))). front ++ x) (b ∙ ap (λ (x : List (List (List ℕ))). ds ++ run_row ∷ x) c)
        ∙ ap (λ (x : List (List (List ℕ))). front ++ (x ++ run_row ∷ (es ++ end_row ∷ []))) p
        ∙ ap (λ (x : List (List (List ℕ))). front ++ (ds2 ++ run_row ∷ (x ++ end_row ∷ []))) q
        ∙ ap (λ (x : List (List (List ℕ))). front ++ x) (sym (append_assoc ds2 (run_row ∷ es2) (end_row ∷ [])))
        ∙ sym (append_assoc front (ds2 ++ run_row ∷ es2) (end_row ∷ []))

-- a text that is read as a schedule is the schedule's spelling
pub schedule-spelled : (text : List ℕ) (s : Content) → reading text ≡ Ok s → text ≡ spelling s
unfolding spelling
schedule-spelled text s e = text-spelled text (schedule_rows s) (rows-spelled text s e)

-- so the spelling is read as the schedule
pub spelling-again : (text : List ℕ) (s : Content) → reading text ≡ Ok s → reading (spelling s) ≡ Ok s
spelling-again text s e = ap reading (sym (schedule-spelled text s e)) ∙ e
