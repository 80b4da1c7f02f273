-- A configuration in the grammar is read from its spelling.
use Rattle.std.proofs.Common.{◌≡◌, ℕ, ◌+◌, ◌<◌, ◌≤◌, List, [], ◌∷◌, ◌++◌, length, Bool, true, false, refl, sym, ap, ◌∙◌, subst, append_assoc, arith, length-append}
use Rattle.std.specs.Prelude.{Option, Some, None, Result, Ok, codes, decimal, map}
use Rattle.std.specs.List.{list_all, list_any}
use Rattle.std.proofs.lemmas.Bool.{and_parts}
use Rattle.std.proofs.lemmas.Fmt.{decimal_digit}
use Rattle.std.proofs.lemmas.List.{append-nil}
use Rattle.std.proofs.lemmas.List.Folds.{list_all-append}
use Rattle.std.proofs.lemmas.Slice.Eq.{bytes_eq-Decides}
use Rattle.mip_words.specs.Hex.{hex_of}
use Rattle.mip_words.specs.Steps.{◌>>=◌}
use Rattle.mip_words.specs.declared.address.Address.{Address}
use Rattle.mip_lines.proofs.LineLaws.{text-again}
use Rattle.mip_symbols.specs.Kinds as kinds
use Rattle.mip_symbols.specs.declared.reason.Reason.{Reason}
use Rattle.mip_frames.specs.declared.route.Route.{Route}
use Rattle.mip_schedule.specs.Reading.{head_field, head_line, version_line, seed_line}
use Rattle.mip_schedule.specs.Faults.{Wrong}
use Rattle.mip_drafts.specs.Walk.{walk}
use Rattle.mip_config.specs.Configs.{Content}
use Rattle.mip_config.specs.Drafts.{nothing, is_host, is_same, line_onto}
use Rattle.mip_config.specs.Reading.{self_line, port_line, head_of, configured, reading}
use Rattle.mip_config.specs.declared.config_draft.ConfigDraft.{ConfigDraft}
use Rattle.mip_config.specs.declared.payload.Payload.{Payload}
use Rattle.mip_config.specs.declared.role.Role.{Role}
use Rattle.mip_config.specs.declared.role.Role.TheVariants.{Agent, Correspondent, Mobile}
use Rattle.mip_config_writing.specs.Grammar.{is_route, is_address, is_payload, is_fallback, IsApart, InGrammar}
use Rattle.mip_config_writing.specs.Spelling.{head_rows, route_text, default_text, default_rows, role_text, serve_text, payload_text, body_rows, config_rows, spelling}
use Rattle.mip_config_writing.proofs.DraftLaws.{Rows, end_row}
use Rattle.mip_config_writing.proofs.FieldReadings.{number_reads, seed_reads}
use Rattle.mip_config_writing.proofs.LineReadings.{route_comes, default_comes, role_comes, serve_comes, payload_comes}
use Rattle.mip_config_writing.proofs.PlainLaws.{rows_plain}

-- something stands in front of any end
some_row : (rows : Rows) (t : List (List ℕ)) (ts : Rows) → (u : List (List ℕ)) × (us : Rows) × (rows ++ t ∷ ts ≡ u ∷ us)
some_row [] t ts = (t, ts, refl)
some_row (row ∷ rows) t ts = (row, rows ++ t ∷ ts, refl)

-- these lines, with any line behind them, make e of d
abbrev Reaches : ConfigDraft → Rows → ConfigDraft → Type 0
Reaches d rows e = (n : ℕ) (t : List (List ℕ)) (ts : Rows) → (m : ℕ) × (walk line_onto d n (rows ++ t ∷ ts) ≡ walk line_onto e m (t ∷ ts))

reaches_none : (d : ConfigDraft) → Reaches d [] d
reaches_none d n t ts = (n, refl)

reaches_one : (d e : ConfigDraft) (row : List (List ℕ)) → line_onto d row ≡ Ok e → Reaches d (row ∷ []) e
unfolding walk
reaches_one d e row is n t ts = (n + 1, rw (is) refl)

reaches_both : (d e f : ConfigDraft) (a b : Rows) → Reaches d a e → Reaches e b f → Reaches d (a ++ b) f
reaches_both d e f a b one two n t ts =
    let s = some_row b t ts in
    let p = one n s.0 s.1 in
    let q = two p.0 t ts in
    (q.0, ap (walk line_onto d n) (append_assoc a b (t ∷ ts) ∙ ap (λ (r : Rows). a ++ r) s.2) ∙ p.1 ∙ ap (walk line_onto e p.0) (sym s.2) ∙ q.1)

-- a list of lines of one kind, of which the draft d keeps what is read
reaches_each : {X : Type 0} (d : List X → ConfigDraft) (text : X → List (List ℕ)) (before xs : List X)
    → ((b : List X) (x : X) (a : List X) → before ++ xs ≡ b ++ x ∷ a → line_onto (d b) (text x) ≡ Ok (d (b ++ x ∷ []))) → Reaches (d before) (map text xs) (d (before ++ xs))
reaches_each d text before [] each n t ts = (n, ap (λ (b : List _). walk line_onto (d b) n (t ∷ ts)) (sym (append-nil before)))
reaches_each d text before (x ∷ xs) each n t ts =
    let whole : (before ++ x ∷ []) ++ xs ≡ before ++ x ∷ xs = append_assoc before (x ∷ []) xs in
    let one = reaches_one (d before) (d (before ++ x ∷ [])) (text x) (each before x xs refl) in
    let more = reaches_each d text (before ++ x ∷ []) xs (λ b y a is. each b y a (sym whole ∙ is)) in
    let p = reaches_both (d before) (d (before ++ x ∷ [])) (d ((before ++ x ∷ []) ++ xs)) (text x ∷ []) (map text xs) one more n t ts in
    (p.0, p.1 ∙ ap (λ (b : List _). walk line_onto (d b) p.0 (t ∷ ts)) whole)

-- one of a list
one_of : {X : Type 0} (p : X → Bool) (xs b : List X) (x : X) (a : List X) → list_all p xs ≡ true → xs ≡ b ++ x ∷ a → p x ≡ true
one_of p xs b x a all is =
    (and_parts (p x) (list_all p a) (and_parts (list_all p b) (list_all p (x ∷ a)) (sym (list_all-append p b (x ∷ a)) ∙ ap (list_all p) (sym is) ∙ all)).1).0

fewer : {X : Type 0} (most : ℕ) (xs b : List X) (x : X) (a : List X) → length xs ≤ most → xs ≡ b ++ x ∷ a → length b < most
fewer most xs b x a few is = omega (arith, few, ap length is, length-append b (x ∷ a))

abbrev draft : List Route → Option ℕ → Option Role → List Address → List Payload → ConfigDraft
draft routes fallback role serves payloads = record { routes = routes; fallback = fallback; role = role; serves = serves; payloads = payloads }

default_reaches : (routes : List Route) (o : Option ℕ) → is_fallback o ≡ true → Reaches (draft routes None None [] []) (default_rows o) (draft routes o None [] [])
default_reaches routes None is = reaches_none (draft routes None None [] [])
default_reaches routes (Some port) is = reaches_one (draft routes None None [] []) (draft routes (Some port) None [] []) (default_text port) (default_comes (draft routes None None [] []) port refl is)

homes_reach : (routes : List Route) (f : Option ℕ) (a : Address) (p l r : ℕ) (homes : List Address) → list_all is_address homes ≡ true → length homes ≤ 8
    → ((b : List Address) (h : Address) (after : List Address) → homes ≡ b ++ h ∷ after → list_any (is_same h) b ≡ false)
    → Reaches (draft routes f (Some (Agent a p l r)) [] []) (map serve_text homes) (draft routes f (Some (Agent a p l r)) homes [])
homes_reach routes f a p l r homes are few new =
    reaches_each (λ hs. draft routes f (Some (Agent a p l r)) hs []) serve_text [] homes
    (λ b h after is. serve_comes (draft routes f (Some (Agent a p l r)) b []) h refl (one_of is_address homes b h after are is) (fewer 8 homes b h after few is) (new b h after is))

payloads_reach : (routes : List Route) (f : Option ℕ) (role : Role) (payloads : List Payload) → is_host (Some role) ≡ true → list_all is_payload payloads ≡ true → length payloads ≤ 1000
    → Reaches (draft routes f (Some role) [] []) (map payload_text payloads) (draft routes f (Some role) [] payloads)
payloads_reach routes f role payloads host are few =
    reaches_each (λ ps. draft routes f (Some role) [] ps) payload_text [] payloads
    (λ b p after is. payload_comes (draft routes f (Some role) [] b) p host (one_of is_payload payloads b p after are is) (fewer 1000 payloads b p after few is))

-- homes of an agent, or payloads of another node
tail_reaches : (routes : List Route) (f : Option ℕ) (role : Role) (homes : List Address) (payloads : List Payload) → list_all is_address homes ≡ true → length homes ≤ 8
    → ((b : List Address) (h : Address) (after : List Address) → homes ≡ b ++ h ∷ after → list_any (is_same h) b ≡ false)
    → list_all is_payload payloads ≡ true → length payloads ≤ 1000 → IsApart role homes payloads
    → Reaches (draft routes f (Some role) [] []) (map serve_text homes ++ map payload_text payloads) (draft routes f (Some role) homes payloads)
tail_reaches routes f (Agent a p l r) homes payloads hosts few_homes new are few none =
    subst (λ (ps : List Payload). Reaches (draft routes f (Some (Agent a p l r)) [] []) (map serve_text homes ++ map payload_text ps) (draft routes f (Some (Agent a p l r)) homes ps)) (sym none)
    (reaches_both (draft routes f (Some (Agent a p l r)) [] []) (draft routes f (Some (Agent a p l r)) homes []) (draft routes f (Some (Agent a p l r)) homes []) (map serve_text homes) []
    (homes_reach routes f a p l r homes hosts few_homes new) (reaches_none (draft routes f (Some (Agent a p l r)) homes [])))
tail_reaches routes f (Correspondent a r) homes payloads hosts few_homes new are few none =
    subst (λ (hs : List Address). Reaches (draft routes f (Some (Correspondent a r)) [] []) (map serve_text hs ++ map payload_text payloads) (draft routes f (Some (Correspondent a r)) hs payloads)) (sym none)
    (payloads_reach routes f (Correspondent a r) payloads refl are few)
tail_reaches routes f (Mobile a g) homes payloads hosts few_homes new are few none =
    subst (λ (hs : List Address). Reaches (draft routes f (Some (Mobile a g)) [] []) (map serve_text hs ++ map payload_text payloads) (draft routes f (Some (Mobile a g)) hs payloads)) (sym none)
    (payloads_reach routes f (Mobile a g) payloads refl are few)

abbrev draft_of : Content → ConfigDraft
draft_of c = draft c.routes c.fallback (Some c.role) c.serves c.payloads

-- the lines behind the head make what they spell
body_reaches : (c : Content) → InGrammar c → Reaches nothing (body_rows c) (draft_of c)
body_reaches c is =
    let d1 : ConfigDraft = draft c.routes None None [] [] in
    let d2 : ConfigDraft = draft c.routes c.fallback None [] [] in
    let d3 : ConfigDraft = draft c.routes c.fallback (Some c.role) [] [] in
    let tail : Rows = map serve_text c.serves ++ map payload_text c.payloads in
    reaches_both nothing d1 (draft_of c) (map route_text c.routes) (default_rows c.fallback ++ (role_text c.role ∷ tail))
    (reaches_each (λ rs. draft rs None None [] []) route_text [] c.routes
    (λ b r after split. route_comes (draft b None None [] []) r refl (one_of is_route c.routes b r after is.routes split) (fewer 64 c.routes b r after is.few_routes split)))
    (reaches_both d1 d2 (draft_of c) (default_rows c.fallback) (role_text c.role ∷ tail) (default_reaches c.routes c.fallback is.fallback)
    (reaches_both d2 d3 (draft_of c) (role_text c.role ∷ []) tail (reaches_one d2 d3 (role_text c.role) (role_comes d2 c.role refl is.role is.own))
    (tail_reaches c.routes c.fallback c.role c.serves c.payloads is.homes is.few_homes is.new_homes is.payloads is.few_payloads is.apart)))

walk_reads : (c : Content) → InGrammar c → (m : ℕ) × (walk line_onto nothing 5 (body_rows c ++ end_row ∷ []) ≡ Ok (record { draft = draft_of c; line = m }))
unfolding walk
walk_reads c is = body_reaches c is 5 end_row []

head_line_reads : {A : Type 0} (word f : List ℕ) (read : List ℕ → Result A Reason) (n : ℕ) (x : A) (t : List (List ℕ)) (ts : Rows) → read f ≡ Ok x → head_line word read n ((word ∷ f ∷ []) ∷ t ∷ ts) ≡ Ok (x, t ∷ ts)
unfolding head_field
head_line_reads word f read n x t ts e = rw ((bytes_eq-Decides word word).1 refl, e) refl

version_reads : (t : List (List ℕ)) (ts : Rows) → version_line 1 ((codes "mip" ∷ codes "1" ∷ []) ∷ t ∷ ts) ≡ Ok (1, t ∷ ts)
unfolding version_line
version_reads t ts = head_line_reads (codes "mip") (codes "1") (kinds.number 1 1) 1 1 t ts (ap (kinds.number 1 1) (sym (decimal_digit 1 (omega arith))) ∙ number_reads 1 1 1 refl (omega arith))

seed_line_reads : (c : Content) → InGrammar c → (t : List (List ℕ)) (ts : Rows) → seed_line ((codes "seed" ∷ hex_of c.seed ∷ []) ∷ t ∷ ts) ≡ Ok (c.seed, t ∷ ts)
unfolding seed_line
seed_line_reads c is t ts = head_line_reads (codes "seed") (hex_of c.seed) kinds.seed 2 c.seed t ts (seed_reads c.seed is.seed is.seed_size)

self_reads : (c : Content) → InGrammar c → (t : List (List ℕ)) (ts : Rows) → self_line ((codes "self" ∷ decimal c.node.0 ∷ []) ∷ t ∷ ts) ≡ Ok (c.node.0, t ∷ ts)
unfolding self_line
self_reads c is t ts = head_line_reads (codes "self") (decimal c.node.0) (kinds.number 0 31) 3 c.node.0 t ts (number_reads 0 31 c.node.0 is.node (omega arith))

port_reads : (c : Content) → InGrammar c → (t : List (List ℕ)) (ts : Rows) → port_line 4 ((codes "port" ∷ decimal c.port ∷ []) ∷ t ∷ ts) ≡ Ok (c.port, t ∷ ts)
unfolding port_line
port_reads c is t ts = head_line_reads (codes "port") (decimal c.port) (kinds.number 1 65535) 4 c.port t ts (number_reads 1 65535 c.port is.port (omega arith))

head_reads : (c : Content) → InGrammar c → (t : List (List ℕ)) (ts : Rows) → head_of (head_rows c.seed c.node c.port ++ t ∷ ts) ≡ Ok (record { seed = c.seed; node = c.node; port = c.port; rows = t ∷ ts })
unfolding head_of
head_reads c is t ts =
    rw (
      version_reads (codes "seed" ∷ hex_of c.seed ∷ []) ((codes "self" ∷ decimal c.node.0 ∷ []) ∷ (codes "port" ∷ decimal c.port ∷ []) ∷ t ∷ ts),
      seed_line_reads c is (codes "self" ∷ decimal c.node.0 ∷ []) ((codes "port" ∷ decimal c.port ∷ []) ∷ t ∷ ts),
      self_reads c is (codes "port" ∷ decimal c.port ∷ []) (t ∷ ts),
      port_reads c is t ts,
    ) refl

abbrev rows_read : Rows → Result Content Wrong
rows_read rows = head_of rows >>= (λ head. walk line_onto nothing 5 head.rows >>= (λ walked. configured head walked walked.draft.role))

-- a configuration in the grammar is read from its spelling
pub spelling_read : (c : Content) → InGrammar c → reading (spelling c) ≡ Ok c
unfolding reading spelling
spelling_read c is =
    let s = some_row (body_rows c) end_row [] in
    let w = walk_reads c is in
    let body : walk line_onto nothing 5 (s.0 ∷ s.1) ≡ Ok (record { draft = draft_of c; line = w.0 }) = ap (walk line_onto nothing 5) (sym s.2) ∙ w.1 in
    ap rows_read (text-again (config_rows c) (rows_plain c is) ∙ ap (λ (r : Rows). head_rows c.seed c.node c.port ++ r) s.2)
    ∙ rw (head_reads c is s.0 s.1, body) refl
