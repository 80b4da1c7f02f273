-- What the lines of a configuration made has these lines.
use Rattle.std.proofs.Common.{◌≡◌, ℕ, ◌+◌, List, [], ◌∷◌, ◌++◌, true, refl, sym, ap, ◌∙◌, subst, append_assoc}
use Rattle.std.specs.Prelude.{Option, Some, None, Result, Ok, codes, map}
use Rattle.std.specs.Str.{bytes_eq}
use Rattle.std.proofs.lemmas.Bool.{cond_both}
use Rattle.std.proofs.lemmas.List.{append-nil, map-append}
use Rattle.mip_words.specs.declared.address.Address.{Address}
use Rattle.mip_words.proofs.StepLaws.{bind_ok, ok_is}
use Rattle.mip_symbols.specs.declared.reason.Reason.{Reason}
use Rattle.mip_symbols.proofs.KindLaws.{worded}
pub use Rattle.mip_lines.proofs.TextRows.{end_row}
use Rattle.mip_frames.specs.declared.route.Route.{Route}
use Rattle.mip_schedule.specs.Reading.{at_line}
use Rattle.mip_schedule.proofs.TextLaws.{at_line_ok}
use Rattle.mip_drafts.specs.Walk.{Walked, ended, walk}
use Rattle.mip_config.specs.Drafts.{nothing, is_open, is_agent, is_host, is_undecided, route_onto, default_onto, role_onto, serve_onto, payload_onto, line_onto}
use Rattle.mip_config.proofs.LineLaws.{route_line, default_line, role_line, serve_line, payload_line}
use Rattle.mip_config.specs.declared.config_draft.ConfigDraft.{ConfigDraft}
use Rattle.mip_config.specs.declared.payload.Payload.{Payload}
use Rattle.mip_config.specs.declared.role.Role.{Role}
use Rattle.mip_config.specs.declared.role.Role.TheVariants.{Agent, Correspondent, Mobile}
use Rattle.mip_config_writing.specs.Grammar.{IsApart}
use Rattle.mip_config_writing.specs.Spelling.{route_text, default_text, default_rows, role_text, serve_text, payload_text}
use Rattle.mip_config_writing.proofs.RowLaws.{route_spelled, default_spelled, role_spelled, serve_spelled, payload_spelled}

abbrev pub Rows : Type 0
Rows = List (List (List ℕ))

-- the lines behind the head
abbrev role_rows : Option Role → Rows
role_rows None = []
role_rows (Some role) = role_text role ∷ []

abbrev all_rows : List Route → Option ℕ → Option Role → List Address → List Payload → Rows
all_rows routes fallback role homes payloads = map route_text routes ++ (default_rows fallback ++ (role_rows role ++ (map serve_text homes ++ map payload_text payloads)))

abbrev pub draft_rows : ConfigDraft → Rows
draft_rows d = all_rows d.routes d.fallback d.role d.serves d.payloads

-- nothing stands behind a role that is not there, an agent has no payloads, and another node no homes
abbrev pub IsOrdered : Option Role → List Address → List Payload → Type 0
IsOrdered None homes payloads = (homes ≡ []) × (payloads ≡ [])
IsOrdered (Some role) homes payloads = IsApart role homes payloads

-- the draft e has the lines of d and this one
pub record IsMore (d : ConfigDraft) (row : List (List ℕ)) (e : ConfigDraft) : Type 0 where
  pub rows : draft_rows e ≡ draft_rows d ++ row ∷ []
  pub ordered : IsOrdered e.role e.serves e.payloads

abbrev pub Extends : ConfigDraft → List (List ℕ) → Result ConfigDraft Reason → Type 0
Extends d row r = (e : ConfigDraft) → r ≡ Ok e → IsOrdered d.role d.serves d.payloads → IsMore d row e

-- a line behind three lists of lines
behind : (a b c : Rows) (row : List (List ℕ)) → a ++ (b ++ (c ++ row ∷ [])) ≡ (a ++ (b ++ c)) ++ row ∷ []
behind a b c row = simp append_assoc

map_more : {A : Type 0} (text : A → List (List ℕ)) (xs : List A) (x : A) → map text (xs ++ x ∷ []) ≡ map text xs ++ text x ∷ []
map_more text xs x = map-append text xs (x ∷ [])

route_more : (routes : List Route) (x : Route) (f : Option ℕ) (r : Option Role) (s : List Address) (p : List Payload) → is_open f r ≡ true → IsOrdered r s p
    → all_rows (routes ++ x ∷ []) f r s p ≡ all_rows routes f r s p ++ route_text x ∷ []
route_more routes x (Some port) r s p free is = absurd cc
route_more routes x None (Some role) s p free is = absurd cc
route_more routes x None None s p free is =
    rw (is.0, is.1) (append-nil (map route_text (routes ++ x ∷ [])) ∙ map_more route_text routes x ∙ ap (λ (t : Rows). t ++ route_text x ∷ []) (sym (append-nil (map route_text routes))))

default_more : (routes : List Route) (port : ℕ) (f : Option ℕ) (r : Option Role) (s : List Address) (p : List Payload) → is_open f r ≡ true → IsOrdered r s p
    → all_rows routes (Some port) r s p ≡ all_rows routes f r s p ++ default_text port ∷ []
default_more routes port (Some other) r s p free is = absurd cc
default_more routes port None (Some role) s p free is = absurd cc
default_more routes port None None s p free is =
    rw (is.0, is.1) (ap (λ (t : Rows). t ++ default_text port ∷ []) (sym (append-nil (map route_text routes))))

role_more : (routes : List Route) (f : Option ℕ) (role : Role) (r : Option Role) (s : List Address) (p : List Payload) → is_undecided r ≡ true → IsOrdered r s p
    → all_rows routes f (Some role) s p ≡ all_rows routes f r s p ++ role_text role ∷ []
role_more routes f role (Some other) s p free is = absurd cc
role_more routes f role None s p free is = rw (is.0, is.1) (behind (map route_text routes) (default_rows f) [] (role_text role))

role_ordered : (role : Role) (r : Option Role) (s : List Address) (p : List Payload) → is_undecided r ≡ true → IsOrdered r s p → IsOrdered (Some role) s p
role_ordered role (Some other) s p free is = absurd cc
role_ordered (Agent a t l n) None s p free is = is.1
role_ordered (Correspondent a n) None s p free is = is.0
role_ordered (Mobile a g) None s p free is = is.0

serve_more : (routes : List Route) (f : Option ℕ) (r : Option Role) (s : List Address) (x : Address) (p : List Payload) → is_agent r ≡ true → IsOrdered r s p
    → all_rows routes f r (s ++ x ∷ []) p ≡ all_rows routes f r s p ++ serve_text x ∷ []
serve_more routes f None s x p agent is = absurd cc
serve_more routes f (Some (Correspondent a n)) s x p agent is = absurd cc
serve_more routes f (Some (Mobile a g)) s x p agent is = absurd cc
serve_more routes f (Some (Agent a t l n)) s x p agent is =
    rw (is, append-nil (map serve_text (s ++ x ∷ [])), append-nil (map serve_text s), map_more serve_text s x)
    (behind (map route_text routes) (default_rows f) (role_text (Agent a t l n) ∷ map serve_text s) (serve_text x))

serve_ordered : (r : Option Role) (s more : List Address) (p : List Payload) → is_agent r ≡ true → IsOrdered r s p → IsOrdered r more p
serve_ordered None s more p agent is = absurd cc
serve_ordered (Some (Correspondent a n)) s more p agent is = absurd cc
serve_ordered (Some (Mobile a g)) s more p agent is = absurd cc
serve_ordered (Some (Agent a t l n)) s more p agent is = is

payload_after : (routes : List Route) (f : Option ℕ) (role : Role) (s : List Address) (p : List Payload) (x : Payload) → s ≡ []
    → all_rows routes f (Some role) s (p ++ x ∷ []) ≡ all_rows routes f (Some role) s p ++ payload_text x ∷ []
payload_after routes f role s p x none =
    rw (none, map_more payload_text p x) (behind (map route_text routes) (default_rows f) (role_text role ∷ map payload_text p) (payload_text x))

payload_more : (routes : List Route) (f : Option ℕ) (r : Option Role) (s : List Address) (p : List Payload) (x : Payload) → is_host r ≡ true → IsOrdered r s p
    → all_rows routes f r s (p ++ x ∷ []) ≡ all_rows routes f r s p ++ payload_text x ∷ []
payload_more routes f None s p x host is = absurd cc
payload_more routes f (Some (Agent a t l n)) s p x host is = absurd cc
payload_more routes f (Some (Correspondent a n)) s p x host is = payload_after routes f (Correspondent a n) s p x is
payload_more routes f (Some (Mobile a g)) s p x host is = payload_after routes f (Mobile a g) s p x is

payload_ordered : (r : Option Role) (s : List Address) (p more : List Payload) → is_host r ≡ true → IsOrdered r s p → IsOrdered r s more
payload_ordered None s p more host is = absurd cc
payload_ordered (Some (Agent a t l n)) s p more host is = absurd cc
payload_ordered (Some (Correspondent a n)) s p more host is = is
payload_ordered (Some (Mobile a g)) s p more host is = is

-- the line as it is spelled is the line that was read
of_row : (d e : ConfigDraft) (row text : List (List ℕ)) → row ≡ text → draft_rows e ≡ draft_rows d ++ text ∷ [] → draft_rows e ≡ draft_rows d ++ row ∷ []
of_row d e row text is rows = rows ∙ ap (λ (r : List (List ℕ)). draft_rows d ++ r ∷ []) (sym is)

route_extends : (d : ConfigDraft) (fields : List (List ℕ)) → Extends d (codes "route" ∷ fields) (route_onto d fields)
route_extends d fields e is ordered =
    let l = route_line d fields e is in
    let more : ConfigDraft = record d { routes = d.routes ++ l.route ∷ [] } in
    subst (IsMore d (codes "route" ∷ fields)) l.is (record {
      rows = of_row d more _ _ (route_spelled fields l.route l.read) (route_more d.routes l.route d.fallback d.role d.serves d.payloads l.in_time ordered);
      ordered = ordered;
    })

default_extends : (d : ConfigDraft) (fields : List (List ℕ)) → Extends d (codes "default" ∷ fields) (default_onto d fields)
default_extends d fields e is ordered =
    let l = default_line d fields e is in
    let more : ConfigDraft = record d { fallback = Some l.port } in
    subst (IsMore d (codes "default" ∷ fields)) l.is (record {
      rows = of_row d more _ _ (default_spelled fields l.port l.read) (default_more d.routes l.port d.fallback d.role d.serves d.payloads l.in_time ordered);
      ordered = ordered;
    })

role_extends : (d : ConfigDraft) (word : List ℕ) (fields : List (List ℕ)) → Extends d (word ∷ fields) (role_onto d word fields)
role_extends d word fields e is ordered =
    let l = role_line d word fields e is in
    let more : ConfigDraft = record d { role = Some l.role } in
    subst (IsMore d (word ∷ fields)) l.is (record {
      rows = of_row d more _ _ (role_spelled word fields l.role l.read) (role_more d.routes d.fallback l.role d.role d.serves d.payloads l.in_time ordered);
      ordered = role_ordered l.role d.role d.serves d.payloads l.in_time ordered;
    })

serve_extends : (d : ConfigDraft) (fields : List (List ℕ)) → Extends d (codes "serve" ∷ fields) (serve_onto d fields)
serve_extends d fields e is ordered =
    let l = serve_line d fields e is in
    let more : ConfigDraft = record d { serves = d.serves ++ l.home ∷ [] } in
    subst (IsMore d (codes "serve" ∷ fields)) l.is (record {
      rows = of_row d more _ _ (serve_spelled fields l.home l.read) (serve_more d.routes d.fallback d.role d.serves l.home d.payloads l.in_time ordered);
      ordered = serve_ordered d.role d.serves (d.serves ++ l.home ∷ []) d.payloads l.in_time ordered;
    })

payload_extends : (d : ConfigDraft) (fields : List (List ℕ)) → Extends d (codes "payload" ∷ fields) (payload_onto d fields)
payload_extends d fields e is ordered =
    let l = payload_line d fields e is in
    let more : ConfigDraft = record d { payloads = d.payloads ++ l.payload ∷ [] } in
    subst (IsMore d (codes "payload" ∷ fields)) l.is (record {
      rows = of_row d more _ _ (payload_spelled fields l.payload l.read) (payload_more d.routes d.fallback d.role d.serves d.payloads l.payload l.in_time ordered);
      ordered = payload_ordered d.role d.serves d.payloads (d.payloads ++ l.payload ∷ []) l.in_time ordered;
    })

-- a line that begins with this word
by_word : (d : ConfigDraft) (w word : List ℕ) (fields : List (List ℕ)) (r : Result ConfigDraft Reason) → bytes_eq w word ≡ true → Extends d (word ∷ fields) r → Extends d (w ∷ fields) r
by_word d w word fields r test extends e is ordered =
    let more = extends e is ordered in
    record { rows = of_row d e (w ∷ fields) (word ∷ fields) (worded w word fields (word ∷ fields) test refl) more.rows; ordered = more.ordered }

pub line_extends : (d : ConfigDraft) (row : List (List ℕ)) → Extends d row (line_onto d row)
unfolding line_onto
line_extends d [] = λ e is ordered. absurd cc
line_extends d (word ∷ fields) =
    let P : Result ConfigDraft Reason → Type 0 = Extends d (word ∷ fields) in
    cond_both (bytes_eq word (codes "route")) _ _ P (λ test. by_word d word (codes "route") fields _ test (route_extends d fields)) (λ _.
    cond_both (bytes_eq word (codes "default")) _ _ P (λ test. by_word d word (codes "default") fields _ test (default_extends d fields)) (λ _.
    cond_both (bytes_eq word (codes "serve")) _ _ P (λ test. by_word d word (codes "serve") fields _ test (serve_extends d fields)) (λ _.
    cond_both (bytes_eq word (codes "payload")) _ _ P (λ test. by_word d word (codes "payload") fields _ test (payload_extends d fields)) (λ _.
    role_extends d word fields))))

-- these lines came behind those of the draft d, to the end of the text
record IsWalked (d : ConfigDraft) (rows : Rows) (out : ConfigDraft) : Type 0 where
  news : Rows
  whole : draft_rows out ≡ draft_rows d ++ news
  spelled : rows ≡ news ++ end_row ∷ []

last_walked : (d : ConfigDraft) (n : ℕ) (row : List (List ℕ)) (w : Walked ConfigDraft) → ended d n row ≡ Ok w → IsWalked d (row ∷ []) w.draft
last_walked d n [] w e = absurd cc
last_walked d n ([] ∷ []) w e =
    subst (λ (v : Walked ConfigDraft). IsWalked d (end_row ∷ []) v.draft) (ok_is (record { draft = d; line = n }) w e)
    (record { news = []; whole = sym (append-nil (draft_rows d)); spelled = refl })
last_walked d n ((c ∷ cs) ∷ fs) w e = absurd cc
last_walked d n ([] ∷ f ∷ fs) w e = absurd cc

walked : (d : ConfigDraft) (n : ℕ) (rows : Rows) (w : Walked ConfigDraft) → walk line_onto d n rows ≡ Ok w → IsOrdered d.role d.serves d.payloads → IsWalked d rows w.draft
unfolding walk
walked d n [] w e ordered = absurd cc
walked d n (row ∷ []) w e ordered = last_walked d n row w e
walked d n (row ∷ next ∷ rows) w e ordered =
    let s = bind_ok (at_line n (line_onto d row)) (λ more. walk line_onto more (n + 1) (next ∷ rows)) w e in
    let one = line_extends d row s.0 (at_line_ok n (line_onto d row) s.0 s.1) ordered in
    let more = walked s.0 (n + 1) (next ∷ rows) w s.2 one.ordered in
    record {
      news = row ∷ more.news;
      whole = more.whole ∙ ap (λ (t : Rows). t ++ more.news) one.rows ∙ append_assoc (draft_rows d) (row ∷ []) more.news;
      spelled = ap (λ (t : Rows). row ∷ t) more.spelled;
    }

-- lines that were read onto nothing are those of what was read
pub walk_spelled : (n : ℕ) (rows : Rows) (w : Walked ConfigDraft) → walk line_onto nothing n rows ≡ Ok w → rows ≡ draft_rows w.draft ++ end_row ∷ []
walk_spelled n rows w e =
    let all = walked nothing n rows w e (refl, refl) in
    all.spelled ∙ ap (λ (t : Rows). t ++ end_row ∷ []) (sym all.whole)
