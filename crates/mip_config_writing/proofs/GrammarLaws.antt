-- A configuration that some text is read as is in the grammar.
use Rattle.std.proofs.Common.{◌≡◌, ◌⊎◌, ℕ, List, [], ◌∷◌, ◌++◌, length, true, false, inl, inr, refl, sym, ap, subst, arith, length-append}
use Rattle.std.specs.Prelude.{Option, Some, None, Result, Ok, codes, ⊤}
use Rattle.std.specs.List.{list_all, list_any}
use Rattle.std.specs.Str.{bytes_eq}
use Rattle.std.proofs.lemmas.Bool.{cond_both}
use Rattle.mip_words.specs.Steps.{◌>>=◌}
use Rattle.mip_words.specs.declared.address.Address.{Address}
use Rattle.mip_words.proofs.StepLaws.{bind_ok, ok_is}
use Rattle.mip_lines.specs.Cutting.{rows_of}
use Rattle.mip_symbols.specs.Kinds as kinds
use Rattle.mip_symbols.specs.declared.reason.Reason.{Reason}
use Rattle.mip_schedule.specs.Reading.{version_line, seed_line}
use Rattle.mip_drafts.specs.Walk.{Walked, walk}
use Rattle.mip_drafts.proofs.WalkLaws.{walk_keeps}
use Rattle.mip_config.specs.Configs.{Content}
use Rattle.mip_config.specs.Facts.{address_of}
use Rattle.mip_config.specs.Drafts.{nothing, route_onto, default_onto, is_anycast, role_onto, is_same, serve_onto, payload_onto, line_onto}
use Rattle.mip_config.specs.Reading.{self_line, port_line, Head, head_of, configured, reading}
use Rattle.mip_config.specs.declared.config_draft.ConfigDraft.{ConfigDraft}
use Rattle.mip_config.specs.declared.role.Role.{Role}
use Rattle.mip_config.proofs.LineLaws.{route_line, default_line, role_line, serve_line, payload_line}
use Rattle.mip_config.proofs.KeptLaws.{all_more, IsKept, reading_keeps}
use Rattle.mip_config_writing.specs.Grammar.{is_within, are_bytes, is_port, is_fallback, is_route, is_address, is_role, is_payload, IsEachNew, InGrammar}
use Rattle.mip_config_writing.proofs.DraftLaws.{IsOrdered, line_extends}
use Rattle.mip_config_writing.proofs.RowsWithin.{number_is_within, seed_is, route_within, default_within, role_within, serve_within, payload_within}
use Rattle.mip_config_writing.proofs.TextLaws.{head_line_spelled, made_head}

-- a place in a list with one item more is in the list, or is that of the item
at_end : {X : Type 0} (xs : List X) (x : X) (b : List X) (y : X) (a : List X) → xs ++ x ∷ [] ≡ b ++ y ∷ a → ((xs ≡ b) × (x ≡ y)) ⊎ ((rest : List X) × (xs ≡ b ++ y ∷ rest))
at_end [] x [] y a e = inl (refl, cc)
at_end [] x (c ∷ b) y a e = absurd (omega (arith, ap length e, length-append b (y ∷ a)))
at_end (z ∷ xs) x [] y a e = inr (xs, cc)
at_end (z ∷ xs) x (c ∷ b) y a e =
    let first : z ≡ c = cc in
    let rest : xs ++ x ∷ [] ≡ b ++ y ∷ a = cc in
    elim (at_end xs x b y a rest) [
      | inl p ↦ inl (rw (first, p.0) refl, p.1)
      | inr p ↦ inr (p.0, rw (first, p.1) refl)
    ]

new_more : (homes : List Address) (x : Address) → IsEachNew homes → list_any (is_same x) homes ≡ false → IsEachNew (homes ++ x ∷ [])
new_more homes x new one before home after e =
    elim (at_end homes x before home after e) [
      | inl p ↦ rw (sym p.0, sym p.1) one
      | inr p ↦ new before home p.0 p.1
    ]

-- the role, if it stands
abbrev IsOwn : Option Role → Type 0
IsOwn None = ⊤
IsOwn (Some role) = (is_role role ≡ true) × (is_anycast (address_of role) ≡ false)

record IsFine (d : ConfigDraft) : Type 0 where
  routes : list_all is_route d.routes ≡ true
  fallback : is_fallback d.fallback ≡ true
  role : IsOwn d.role
  homes : list_all is_address d.serves ≡ true
  new_homes : IsEachNew d.serves
  payloads : list_all is_payload d.payloads ≡ true

abbrev Keeps : ConfigDraft → Result ConfigDraft Reason → Type 0
Keeps d r = (e : ConfigDraft) → r ≡ Ok e → IsFine d → IsFine e

route_keeps : (d : ConfigDraft) (fields : List (List ℕ)) → Keeps d (route_onto d fields)
route_keeps d fields e is fine =
    let l = route_line d fields e is in
    subst IsFine l.is (record {
      routes = all_more is_route d.routes l.route fine.routes (route_within fields l.route l.read);
      fallback = fine.fallback;
      role = fine.role;
      homes = fine.homes;
      new_homes = fine.new_homes;
      payloads = fine.payloads;
    })

default_keeps : (d : ConfigDraft) (fields : List (List ℕ)) → Keeps d (default_onto d fields)
default_keeps d fields e is fine =
    let l = default_line d fields e is in
    subst IsFine l.is (record {
      routes = fine.routes;
      fallback = default_within fields l.port l.read;
      role = fine.role;
      homes = fine.homes;
      new_homes = fine.new_homes;
      payloads = fine.payloads;
    })

role_keeps : (d : ConfigDraft) (word : List ℕ) (fields : List (List ℕ)) → Keeps d (role_onto d word fields)
role_keeps d word fields e is fine =
    let l = role_line d word fields e is in
    subst IsFine l.is (record {
      routes = fine.routes;
      fallback = fine.fallback;
      role = (role_within word fields l.role l.read, l.own);
      homes = fine.homes;
      new_homes = fine.new_homes;
      payloads = fine.payloads;
    })

serve_keeps : (d : ConfigDraft) (fields : List (List ℕ)) → Keeps d (serve_onto d fields)
serve_keeps d fields e is fine =
    let l = serve_line d fields e is in
    subst IsFine l.is (record {
      routes = fine.routes;
      fallback = fine.fallback;
      role = fine.role;
      homes = all_more is_address d.serves l.home fine.homes (serve_within fields l.home l.read);
      new_homes = new_more d.serves l.home fine.new_homes l.new;
      payloads = fine.payloads;
    })

payload_keeps : (d : ConfigDraft) (fields : List (List ℕ)) → Keeps d (payload_onto d fields)
payload_keeps d fields e is fine =
    let l = payload_line d fields e is in
    subst IsFine l.is (record {
      routes = fine.routes;
      fallback = fine.fallback;
      role = fine.role;
      homes = fine.homes;
      new_homes = fine.new_homes;
      payloads = all_more is_payload d.payloads l.payload fine.payloads (payload_within fields l.payload l.read l.free);
    })

line_keeps : (d : ConfigDraft) (row : List (List ℕ)) → Keeps d (line_onto d row)
unfolding line_onto
line_keeps d [] = λ e is fine. absurd cc
line_keeps d (word ∷ fields) =
    cond_both (bytes_eq word (codes "route")) _ _ (Keeps d) (λ _. route_keeps d fields) (λ _.
    cond_both (bytes_eq word (codes "default")) _ _ (Keeps d) (λ _. default_keeps d fields) (λ _.
    cond_both (bytes_eq word (codes "serve")) _ _ (Keeps d) (λ _. serve_keeps d fields) (λ _.
    cond_both (bytes_eq word (codes "payload")) _ _ (Keeps d) (λ _. payload_keeps d fields) (λ _.
    role_keeps d word fields))))

abbrev IsSound : ConfigDraft → Type 0
IsSound d = IsFine d × IsOrdered d.role d.serves d.payloads

sound_keeps : (d : ConfigDraft) (row : List (List ℕ)) (e : ConfigDraft) → line_onto d row ≡ Ok e → IsSound d → IsSound e
sound_keeps d row e is sound = (line_keeps d row e is sound.0, (line_extends d row e is sound.1).ordered)

none_fine : IsFine nothing
none_fine = record {
  routes = refl;
  fallback = refl;
  role = tt;
  homes = refl;
  new_homes = λ before home after e. absurd (omega (arith, ap length e, length-append before (home ∷ after)));
  payloads = refl;
}

-- what the head holds
record IsHead (seed : List ℕ) (node port : ℕ) : Type 0 where
  seed_bytes : are_bytes seed ≡ true
  seed_size : length seed ≡ 32
  node_within : is_within 0 31 node ≡ true
  port_within : is_port port ≡ true

seed_within : (rows : List (List (List ℕ))) (out : List ℕ × List (List (List ℕ))) → seed_line rows ≡ Ok out → (are_bytes out.0 ≡ true) × (length out.0 ≡ 32)
unfolding seed_line
seed_within rows out e =
    let h = head_line_spelled (codes "seed") kinds.seed 2 rows out e in
    seed_is h.field out.0 h.value

self_within : (rows : List (List (List ℕ))) (out : ℕ × List (List (List ℕ))) → self_line rows ≡ Ok out → is_within 0 31 out.0 ≡ true
unfolding self_line
self_within rows out e =
    let h = head_line_spelled (codes "self") (kinds.number 0 31) 3 rows out e in
    number_is_within 0 31 h.field out.0 h.value

port_within : (rows : List (List (List ℕ))) (out : ℕ × List (List (List ℕ))) → port_line 4 rows ≡ Ok out → is_port out.0 ≡ true
unfolding port_line
port_within rows out e =
    let h = head_line_spelled (codes "port") (kinds.number 1 65535) 4 rows out e in
    number_is_within 1 65535 h.field out.0 h.value

head_within : (rows : List (List (List ℕ))) (h : Head) → head_of rows ≡ Ok h → IsHead h.seed h.node.0 h.port
unfolding head_of
head_within rows h e =
    let v = bind_ok (version_line 1 rows) (λ version. seed_line version.1 >>= (λ seed. self_line seed.1 >>= (λ node. port_line 4 node.1 >>= (λ port. Ok (made_head seed.0 node.0 port))))) h e in
    let s = bind_ok (seed_line v.0.1) (λ seed. self_line seed.1 >>= (λ node. port_line 4 node.1 >>= (λ port. Ok (made_head seed.0 node.0 port)))) h v.2 in
    let n = bind_ok (self_line s.0.1) (λ node. port_line 4 node.1 >>= (λ port. Ok (made_head s.0.0 node.0 port))) h s.2 in
    let p = bind_ok (port_line 4 n.0.1) (λ port. Ok (made_head s.0.0 n.0.0 port)) h n.2 in
    let seed = seed_within v.0.1 s.0 s.1 in
    subst (λ (x : Head). IsHead x.seed x.node.0 x.port) {x = made_head s.0.0 n.0.0 p.0} (ok_is (made_head s.0.0 n.0.0 p.0) h p.2)
    (record { seed_bytes = seed.0; seed_size = seed.1; node_within = self_within s.0.1 n.0 n.1; port_within = port_within n.0.1 p.0 p.1 })

configured_within : (h : Head) (w : Walked ConfigDraft) (role : Option Role) (c : Content) → w.draft.role ≡ role → configured h w role ≡ Ok c → IsHead h.seed h.node.0 h.port → IsSound w.draft → IsKept c → InGrammar c
configured_within h w None c is e head sound kept = absurd cc
configured_within h w (Some role) c is e head sound kept =
    let own : IsOwn (Some role) = subst IsOwn is sound.0.role in
    let made = ok_is _ c e in
    let few = subst IsKept (sym made) kept in
    subst InGrammar made (record {
      seed = head.seed_bytes;
      seed_size = head.seed_size;
      node = head.node_within;
      port = head.port_within;
      routes = sound.0.routes;
      few_routes = few.few_routes;
      fallback = sound.0.fallback;
      role = own.0;
      own = own.1;
      homes = sound.0.homes;
      few_homes = few.few_homes;
      new_homes = sound.0.new_homes;
      payloads = sound.0.payloads;
      few_payloads = few.few_payloads;
      apart = subst (λ (r : Option Role). IsOrdered r w.draft.serves w.draft.payloads) is sound.1;
    })

-- a configuration that some text is read as is in the grammar
pub in_grammar : (text : List ℕ) (c : Content) → reading text ≡ Ok c → InGrammar c
unfolding reading
in_grammar text c e =
    let h = bind_ok (head_of (rows_of text)) (λ head. walk line_onto nothing 5 head.rows >>= (λ walked. configured head walked walked.draft.role)) c e in
    let w = bind_ok (walk line_onto nothing 5 h.0.rows) (λ walked. configured h.0 walked walked.draft.role) c h.2 in
    configured_within h.0 w.0 w.0.draft.role c refl w.2 (head_within (rows_of text) h.0 h.1)
    (walk_keeps line_onto IsSound sound_keeps nothing 5 h.0.rows w.0 w.1 (none_fine, (refl, refl)))
    (reading_keeps text c e)
