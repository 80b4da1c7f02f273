-- Each declaration of a schedule stands after those before it, and each event after the declarations and the events
-- before it.
use Rattle.std.proofs.Common.{◌≡◌, ℕ, ◌+◌, ◌≤◌, ◌^◌, List, [], ◌∷◌, ◌++◌, length, refl, sym, ap, ◌∙◌, subst}
use Rattle.std.specs.Prelude.{Bool, Option, Some, None, Result, Ok}
use Rattle.std.proofs.lemmas.Bool.{cond_both}
use Rattle.mip_words.specs.Steps.{◌>>=◌}
use Rattle.mip_words.proofs.StepLaws.{bind_ok, ok_is}
use Rattle.mip_lines.specs.Cutting.{rows_of}
use Rattle.mip_schedule.specs.Contents.{Content}
use Rattle.mip_schedule.specs.DeclarationTimes.{judged, declaration_line}
use Rattle.mip_schedule.specs.EventRows.{event_fields}
use Rattle.mip_schedule.specs.EventTimes.{waited, carried, untimely, timed_line, event_line}
use Rattle.mip_schedule.specs.Faults.{Wrong}
use Rattle.mip_schedule.specs.Lawful.{IsDeclaration, IsEvent, IsLawful}
use Rattle.mip_schedule.specs.Reading.{at_line, head_of, is_run, Declared, declarations_of, last_row, events_of, reading}
use Rattle.mip_schedule.specs.Schedules.{content}
use Rattle.mip_schedule.specs.Spelling.{event_text, spelling}
use Rattle.mip_schedule.specs.Versions.{is_numbered}
use Rattle.mip_symbols.specs.declared.declaration.Declaration.{Declaration}
use Rattle.mip_schedule.specs.declared.event.Event.{Event}
use Rattle.mip_symbols.specs.declared.reason.Reason.{Reason}
use Rattle.mip_schedule.specs.declared.schedule.Schedule.{Schedule}
use Rattle.mip_schedule.proofs.AcceptedLaws.{accepted}
use Rattle.mip_schedule.proofs.DeclarationLaws.{declaration-spelled}
use Rattle.mip_schedule.proofs.EventLaws.{event-spelled}
use Rattle.mip_schedule.proofs.FewLaws.{line_free}
use Rattle.mip_schedule.proofs.TextLaws.{at_line_ok, head_within}
use Rattle.mip_schedule.proofs.WithinLaws.{event-within}

-- each item stands after those before it
abbrev pub Each : {X : Type 0} → (List X → X → Type 0) → List X → Type 0
Each {X} P xs = (before : List X) (x : X) (after : List X) → xs ≡ before ++ x ∷ after → P before x

none_each : {X : Type 0} (P : List X → X → Type 0) → Each P []
none_each P [] x after e = absurd cc
none_each P (y ∷ before) x after e = absurd cc

-- one item more
each_more : {X : Type 0} (P : List X → X → Type 0) (xs : List X) (x : X) → Each P xs → P xs x → Each P (xs ++ x ∷ [])
each_more P [] x each here [] y after e = let same : x ≡ y = cc in subst (P []) same here
each_more P [] x each here (z ∷ before) y after e = absurd (behind before y after (let t : [] ≡ before ++ y ∷ after = cc in t))
  where
    behind : {X : Type 0} (before : List X) (y : X) (after : List X) → [] ≡ before ++ y ∷ after → ⊥
    behind [] y after e = cc
    behind (z ∷ before) y after e = cc
each_more P (w ∷ xs) x each here [] y after e = let same : w ≡ y = cc in subst (P []) same (each [] w xs refl)
each_more {X} P (w ∷ xs) x each here (z ∷ before) y after e =
    let same : w ≡ z = cc in
    let rest : xs ++ x ∷ [] ≡ before ++ y ∷ after = cc in
    subst (λ (v : X). P (v ∷ before) y) same
    (each_more (λ us u. P (w ∷ us) u) xs x (λ us u vs q. each (w ∷ us) u vs (ap (λ (l : List X). w ∷ l) q)) here before y after rest)

-- a line of declarations that is read is one that stands
line_stands : (ds : List Declaration) (row : List (List ℕ)) (d : Declaration) → declaration_line ds row ≡ Ok d → IsDeclaration ds d
line_stands ds row d e = record {
  line = subst (λ (r : List (List ℕ)). declaration_line ds r ≡ Ok d) (declaration-spelled ds row d e) e;
  free = (line_free ds row d e).1;
}

declarations_stand : (rows : List (List (List ℕ))) (ds : List Declaration) (n : ℕ) (out : Declared)
    → declarations_of ds n rows ≡ Ok out → Each IsDeclaration ds → Each IsDeclaration out.declarations
unfolding declarations_of
declarations_stand [] ds n out = λ e. absurd cc
declarations_stand (row ∷ []) ds n out = λ e. absurd cc
declarations_stand (row ∷ next ∷ rows) ds n out =
    cond_both (is_run row) _ _ (λ (r : Result Declared Wrong). r ≡ Ok out → Each IsDeclaration ds → Each IsDeclaration out.declarations)
    (λ _ e each. subst (λ (d : Declared). Each IsDeclaration d.declarations) (ok_is (record { declarations = ds; line = n + 1; rows = next ∷ rows }) out e) each)
    (λ _ e each.
    let p = bind_ok (at_line n (declaration_line ds row)) (λ d. declarations_of (ds ++ d ∷ []) (n + 1) (next ∷ rows)) out e in
    declarations_stand (next ∷ rows) (ds ++ p.0 ∷ []) (n + 1) out p.2
    (each_more IsDeclaration ds p.0 each (line_stands ds row p.0 (at_line_ok n (declaration_line ds row) p.0 p.1))))

fits_of : (x y : Event) (o : Option Reason) → judged x o ≡ Ok y → (x ≡ y) × (o ≡ None)
fits_of x y None e = (cc, refl)
fits_of x y (Some why) e = absurd cc

pub timed_fits : (numbered : Bool) (ds : List Declaration) (count waits carries : ℕ) (row : List (List ℕ)) (x : Event)
    → timed_line numbered ds count waits carries row ≡ Ok x → (event_fields numbered ds row ≡ Ok x) × (untimely ds count waits carries x ≡ None)
unfolding timed_line
timed_fits numbered ds count waits carries row x e =
    let p = bind_ok (event_fields numbered ds row) (λ y. judged y (untimely ds count waits carries y)) x e in
    let q = fits_of p.0 x (untimely ds count waits carries p.0) p.2 in
    (p.1 ∙ ap (λ (y : Event). Ok y) q.0, ap (untimely ds count waits carries) (sym q.0) ∙ q.1)

-- a line of events that is read is one that stands
event_stands : (numbered : Bool) (ds : List Declaration) (es : List Event) (row : List (List ℕ)) (x : Event) → event_line numbered ds es row ≡ Ok x → IsEvent numbered ds es x
event_stands numbered ds es row x e =
    let text : row ≡ event_text numbered ds x = event-spelled numbered ds (length es) (waited es) (carried es) row x e in
    let fits = timed_fits numbered ds (length es) (waited es) (carried es) row x e in
    record {
      line = subst (λ (r : List (List ℕ)). event_line numbered ds es r ≡ Ok x) text e;
      fits = fits.1;
      within = event-within numbered ds x (subst (λ (r : List (List ℕ)). event_fields numbered ds r ≡ Ok x) text fits.0);
    }

pub last_stands : (n : ℕ) (es : List Event) (row : List (List ℕ)) (out : List Event) → last_row n es row ≡ Ok out → es ≡ out
last_stands n es [] out e = absurd cc
last_stands n es ([] ∷ []) out e = ok_is es out e
last_stands n es ([] ∷ f ∷ fs) out e = absurd cc
last_stands n es ((c ∷ cs) ∷ fs) out e = absurd cc

events_stand : (numbered : Bool) (ds : List Declaration) (rows : List (List (List ℕ))) (es : List Event) (n : ℕ) (out : List Event)
    → events_of numbered ds es n rows ≡ Ok out → Each (IsEvent numbered ds) es → Each (IsEvent numbered ds) out
unfolding events_of
events_stand numbered ds [] es n out e each = absurd cc
events_stand numbered ds (row ∷ []) es n out e each = subst (Each (IsEvent numbered ds)) (last_stands n es row out e) each
events_stand numbered ds (row ∷ next ∷ rows) es n out e each =
    let p = bind_ok (at_line n (event_line numbered ds es row)) (λ x. events_of numbered ds (es ++ x ∷ []) (n + 1) (next ∷ rows)) out e in
    events_stand numbered ds (next ∷ rows) (es ++ p.0 ∷ []) (n + 1) out p.2
    (each_more (IsEvent numbered ds) es p.0 each (event_stands numbered ds es row p.0 (at_line_ok n (event_line numbered ds es row) p.0 p.1)))

-- what a text that is read says
pub record IsReadSo (c : Content) : Type 0 where
  pub version : (1 ≤ c.version) × (c.version ≤ 2)
  pub start : c.start.0 ≤ 2 ^ 40
  pub declarations : Each IsDeclaration c.declarations
  pub events : Each (IsEvent (is_numbered c.version) c.declarations) c.events

pub read_so : (text : List ℕ) (s : Content) → reading text ≡ Ok s → IsReadSo s
unfolding reading
read_so text s e =
    let h = bind_ok (head_of (rows_of text)) (λ head. declarations_of [] 4 head.rows >>= (λ declared. events_of (is_numbered head.version) declared.declarations [] declared.line declared.rows >>= (λ events. Ok (record { version = head.version; seed = head.seed; start = head.start; declarations = declared.declarations; events = events })))) s e in
    let d = bind_ok (declarations_of [] 4 h.0.rows) (λ declared. events_of (is_numbered h.0.version) declared.declarations [] declared.line declared.rows >>= (λ events. Ok (record { version = h.0.version; seed = h.0.seed; start = h.0.start; declarations = declared.declarations; events = events }))) s h.2 in
    let es = bind_ok (events_of (is_numbered h.0.version) d.0.declarations [] d.0.line d.0.rows) (λ events. Ok (record { version = h.0.version; seed = h.0.seed; start = h.0.start; declarations = d.0.declarations; events = events })) s d.2 in
    subst IsReadSo (ok_is _ s es.2)
    (record {
      version = (head_within (rows_of text) h.0 h.1).version;
      start = (head_within (rows_of text) h.0 h.1).start;
      declarations = declarations_stand h.0.rows [] 4 d.0 d.1 (none_each IsDeclaration);
      events = events_stand (is_numbered h.0.version) d.0.declarations d.0.rows [] d.0.line es.0 es.1 (none_each (IsEvent (is_numbered h.0.version) d.0.declarations));
    })

pub lawful_schedule : (s : Schedule) → IsLawful (content s)
lawful_schedule s =
    let so = read_so (spelling (content s)) (content s) (accepted s) in
    record { version = so.version; start = so.start; declarations = so.declarations; events = so.events; lines = s.few_lines }
