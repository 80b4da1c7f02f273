-- What is read keeps to what a configuration keeps to.
use Rattle.std.proofs.Common.{◌≡◌, ℕ, ◌≤◌, List, [], ◌∷◌, ◌++◌, length, Bool, true, false, refl, ◌∙◌, subst, arith, length-append}
use Rattle.std.specs.Prelude.{Option, Some, None, Result, Ok, codes, ⊤}
use Rattle.std.specs.List.{list_all}
use Rattle.std.specs.Str.{bytes_eq}
use Rattle.std.proofs.lemmas.Bool.{cond_both, leb-false, le-leb}
use Rattle.std.proofs.lemmas.List.Folds.{list_all-append}
use Rattle.mip_words.specs.Addresses.{is_routable}
use Rattle.mip_words.specs.Steps.{◌>>=◌}
use Rattle.mip_words.specs.declared.address.Address.{Address}
use Rattle.mip_words.proofs.StepLaws.{bind_ok, ok_is}
use Rattle.mip_lines.specs.HexFields.{address_in}
use Rattle.mip_lines.specs.Cutting.{rows_of}
use Rattle.mip_lines.proofs.HexFieldLaws.{hex_field-spelled}
use Rattle.mip_symbols.specs.Kinds as kinds
use Rattle.mip_symbols.specs.Kinds.{to_host, address, bytes}
use Rattle.mip_symbols.specs.declared.reason.Reason.{Reason}
use Rattle.mip_symbols.proofs.KindLaws.{option_is}
use Rattle.mip_schedule.specs.DeclarationRows.{u16, room}
use Rattle.mip_schedule.specs.EventTimes.{is_reserved}
use Rattle.mip_drafts.specs.Walk.{Walked, walk}
use Rattle.mip_drafts.proofs.WalkLaws.{walk_keeps}
use Rattle.mip_config.specs.Configs.{Content}
use Rattle.mip_config.specs.Facts.{address_of, is_home, is_sendable}
use Rattle.mip_config.specs.Rows.{turn, some_agent, agent_row, correspondent_row, mobile_row, role_row, serve_row, payload_row}
use Rattle.mip_config.specs.Drafts.{nothing, route_onto, default_onto, role_onto, serve_onto, payload_onto, line_onto}
use Rattle.mip_config.specs.Reading.{Head, head_of, configured, reading}
use Rattle.mip_config.specs.declared.config_draft.ConfigDraft.{ConfigDraft}
use Rattle.mip_config.specs.declared.payload.Payload.{Payload}
use Rattle.mip_config.specs.declared.role.Role.{Role}
use Rattle.mip_config.specs.declared.role.Role.TheVariants.{Agent, Correspondent, Mobile}
use Rattle.mip_config.proofs.LineLaws.{route_line, default_line, role_line, serve_line, payload_line}

-- the role, if it stands, has a routable address
abbrev IsRouted : Option Role → Type 0
IsRouted None = ⊤
IsRouted (Some role) = is_routable (address_of role).0 ≡ true

pub record IsSound (d : ConfigDraft) : Type 0 where
  pub role : IsRouted d.role
  pub homes : list_all is_home d.serves ≡ true
  pub sendable : list_all is_sendable d.payloads ≡ true
  pub few_routes : length d.routes ≤ 64
  pub few_homes : length d.serves ≤ 8
  pub few_payloads : length d.payloads ≤ 1000

pub all_more : {A : Type 0} (p : A → Bool) (xs : List A) (x : A) → list_all p xs ≡ true → p x ≡ true → list_all p (xs ++ x ∷ []) ≡ true
all_more p xs x all one = list_all-append p xs (x ∷ []) ∙ rw (all, one) refl

-- fields
to_home : (o : Option Address) (a : Address) → to_host o ≡ Ok a → is_routable a.0 ≡ true
to_home None a = λ e. absurd cc
to_home (Some b) a =
    cond_both (is_routable b.0) _ _ (λ (r : Result Address Reason). r ≡ Ok a → is_routable a.0 ≡ true)
    (λ test e. subst (λ (x : Address). is_routable x.0 ≡ true) (ok_is b a e) test)
    (λ _ e. absurd cc)

address_home : (f : List ℕ) (a : Address) → kinds.address f ≡ Ok a → is_routable a.0 ≡ true
unfolding address
address_home f a e = to_home (address_in f) a e

bytes_short : (f b : List ℕ) → kinds.bytes 512 f ≡ Ok b → length b ≤ 512
unfolding bytes
bytes_short f b e = (hex_field-spelled 512 f b (option_is _ _ _ e)).size

-- the line of the role
abbrev IsRoutedRole : Role → Type 0
IsRoutedRole role = is_routable (address_of role).0 ≡ true

agent_routed : (fields : List (List ℕ)) (role : Role) → agent_row fields ≡ Ok role → IsRoutedRole role
unfolding agent_row
agent_routed [] role e = absurd cc
agent_routed (a ∷ []) role e = absurd cc
agent_routed (a ∷ p ∷ []) role e = absurd cc
agent_routed (a ∷ p ∷ l ∷ []) role e = absurd cc
agent_routed (a ∷ p ∷ l ∷ r ∷ []) role e =
    let x1 = bind_ok (kinds.address a) (λ y1. u16 p >>= (λ y2. u16 l >>= (λ y3. room r >>= (λ y4. Ok (Agent y1 y2 y3 y4))))) role e in
    let x2 = bind_ok (u16 p) (λ y2. u16 l >>= (λ y3. room r >>= (λ y4. Ok (Agent x1.0 y2 y3 y4)))) role x1.2 in
    let x3 = bind_ok (u16 l) (λ y3. room r >>= (λ y4. Ok (Agent x1.0 x2.0 y3 y4))) role x2.2 in
    let x4 = bind_ok (room r) (λ y4. Ok (Agent x1.0 x2.0 x3.0 y4)) role x3.2 in
    subst IsRoutedRole (ok_is (Agent x1.0 x2.0 x3.0 x4.0) role x4.2) (address_home a x1.0 x1.1)
agent_routed (a ∷ p ∷ l ∷ r ∷ x ∷ more) role e = absurd cc

correspondent_routed : (fields : List (List ℕ)) (role : Role) → correspondent_row fields ≡ Ok role → IsRoutedRole role
unfolding correspondent_row
correspondent_routed [] role e = absurd cc
correspondent_routed (a ∷ []) role e = absurd cc
correspondent_routed (a ∷ r ∷ []) role e =
    let x1 = bind_ok (kinds.address a) (λ y1. room r >>= (λ y2. Ok (Correspondent y1 y2))) role e in
    let x2 = bind_ok (room r) (λ y2. Ok (Correspondent x1.0 y2)) role x1.2 in
    subst IsRoutedRole (ok_is (Correspondent x1.0 x2.0) role x2.2) (address_home a x1.0 x1.1)
correspondent_routed (a ∷ r ∷ x ∷ more) role e = absurd cc

mobile_routed : (fields : List (List ℕ)) (role : Role) → mobile_row fields ≡ Ok role → IsRoutedRole role
unfolding mobile_row
mobile_routed [] role e = absurd cc
mobile_routed (a ∷ []) role e = absurd cc
mobile_routed (a ∷ g ∷ []) role e =
    let x1 = bind_ok (kinds.address a) (λ y1. some_agent g >>= (λ y2. Ok (Mobile y1 y2))) role e in
    let x2 = bind_ok (some_agent g) (λ y2. Ok (Mobile x1.0 y2)) role x1.2 in
    subst IsRoutedRole (ok_is (Mobile x1.0 x2.0) role x2.2) (address_home a x1.0 x1.1)
mobile_routed (a ∷ g ∷ x ∷ more) role e = absurd cc

role_routed : (word : List ℕ) (fields : List (List ℕ)) (role : Role) → role_row word fields ≡ Ok role → IsRoutedRole role
unfolding role_row
role_routed word fields role =
    let P : Result Role Reason → Type 0 = λ r. r ≡ Ok role → IsRoutedRole role in
    cond_both (bytes_eq word (codes "agent")) _ _ P (λ _. agent_routed fields role) (λ _.
    cond_both (bytes_eq word (codes "correspondent")) _ _ P (λ _. correspondent_routed fields role) (λ _.
    cond_both (bytes_eq word (codes "mobile")) _ _ P (λ _. mobile_routed fields role) (λ _.
    λ e. absurd cc)))

serve_home : (fields : List (List ℕ)) (a : Address) → serve_row fields ≡ Ok a → is_home a ≡ true
unfolding serve_row
serve_home [] a e = absurd cc
serve_home (f ∷ []) a e =
    let x = bind_ok (kinds.address f) (λ y. Ok y) a e in
    subst (λ (y : Address). is_home y ≡ true) (ok_is x.0 a x.2) (address_home f x.0 x.1)
serve_home (f ∷ g ∷ more) a e = absurd cc

abbrev IsFit : Payload → Type 0
IsFit p = (is_routable p.to.0 ≡ true) × (length p.payload ≤ 512)

abbrev made : ℕ → Address → ℕ → List ℕ → Payload
made t a p b = record { turn = t; to = a; proto = p; payload = b }

payload_fit : (fields : List (List ℕ)) (p : Payload) → payload_row fields ≡ Ok p → IsFit p
unfolding payload_row
payload_fit [] p e = absurd cc
payload_fit (t ∷ []) p e = absurd cc
payload_fit (t ∷ a ∷ []) p e = absurd cc
payload_fit (t ∷ a ∷ n ∷ []) p e = absurd cc
payload_fit (t ∷ a ∷ n ∷ b ∷ []) p e =
    let x1 = bind_ok (turn t) (λ y1. kinds.address a >>= (λ y2. kinds.number 0 255 n >>= (λ y3. kinds.bytes 512 b >>= (λ y4. Ok (made y1 y2 y3 y4))))) p e in
    let x2 = bind_ok (kinds.address a) (λ y2. kinds.number 0 255 n >>= (λ y3. kinds.bytes 512 b >>= (λ y4. Ok (made x1.0 y2 y3 y4)))) p x1.2 in
    let x3 = bind_ok (kinds.number 0 255 n) (λ y3. kinds.bytes 512 b >>= (λ y4. Ok (made x1.0 x2.0 y3 y4))) p x2.2 in
    let x4 = bind_ok (kinds.bytes 512 b) (λ y4. Ok (made x1.0 x2.0 x3.0 y4)) p x3.2 in
    subst IsFit (ok_is (made x1.0 x2.0 x3.0 x4.0) p x4.2) (address_home a x2.0 x2.1, bytes_short b x4.0 x4.1)
payload_fit (t ∷ a ∷ n ∷ b ∷ x ∷ more) p e = absurd cc

fit_sendable : (p : Payload) → IsFit p → is_reserved p.proto ≡ false → is_sendable p ≡ true
fit_sendable p fit free = rw (fit.0, free, le-leb (length p.payload) 512 fit.1) refl

-- lines
abbrev Keeps : ConfigDraft → Result ConfigDraft Reason → Type 0
Keeps d r = (e : ConfigDraft) → r ≡ Ok e → IsSound d → IsSound e

route_keeps : (d : ConfigDraft) (fields : List (List ℕ)) → Keeps d (route_onto d fields)
route_keeps d fields e is sound =
    let l = route_line d fields e is in
    subst IsSound l.is (record {
      role = sound.role;
      homes = sound.homes;
      sendable = sound.sendable;
      few_routes = omega (arith, length-append d.routes (l.route ∷ []), leb-false 64 (length d.routes) l.few);
      few_homes = sound.few_homes;
      few_payloads = sound.few_payloads;
    })

default_keeps : (d : ConfigDraft) (fields : List (List ℕ)) → Keeps d (default_onto d fields)
default_keeps d fields e is sound =
    let l = default_line d fields e is in
    subst IsSound l.is (record {
      role = sound.role;
      homes = sound.homes;
      sendable = sound.sendable;
      few_routes = sound.few_routes;
      few_homes = sound.few_homes;
      few_payloads = sound.few_payloads;
    })

role_keeps : (d : ConfigDraft) (word : List ℕ) (fields : List (List ℕ)) → Keeps d (role_onto d word fields)
role_keeps d word fields e is sound =
    let l = role_line d word fields e is in
    subst IsSound l.is (record {
      role = role_routed word fields l.role l.read;
      homes = sound.homes;
      sendable = sound.sendable;
      few_routes = sound.few_routes;
      few_homes = sound.few_homes;
      few_payloads = sound.few_payloads;
    })

serve_keeps : (d : ConfigDraft) (fields : List (List ℕ)) → Keeps d (serve_onto d fields)
serve_keeps d fields e is sound =
    let l = serve_line d fields e is in
    subst IsSound l.is (record {
      role = sound.role;
      homes = all_more is_home d.serves l.home sound.homes (serve_home fields l.home l.read);
      sendable = sound.sendable;
      few_routes = sound.few_routes;
      few_homes = omega (arith, length-append d.serves (l.home ∷ []), leb-false 8 (length d.serves) l.few);
      few_payloads = sound.few_payloads;
    })

payload_keeps : (d : ConfigDraft) (fields : List (List ℕ)) → Keeps d (payload_onto d fields)
payload_keeps d fields e is sound =
    let l = payload_line d fields e is in
    subst IsSound l.is (record {
      role = sound.role;
      homes = sound.homes;
      sendable = all_more is_sendable d.payloads l.payload sound.sendable (fit_sendable l.payload (payload_fit fields l.payload l.read) l.free);
      few_routes = sound.few_routes;
      few_homes = sound.few_homes;
      few_payloads = omega (arith, length-append d.payloads (l.payload ∷ []), leb-false 1000 (length d.payloads) l.few);
    })

line_keeps : (d : ConfigDraft) (row : List (List ℕ)) → Keeps d (line_onto d row)
unfolding line_onto
line_keeps d [] = λ e is sound. absurd cc
line_keeps d (word ∷ fields) =
    cond_both (bytes_eq word (codes "route")) _ _ (Keeps d) (λ _. route_keeps d fields) (λ _.
    cond_both (bytes_eq word (codes "default")) _ _ (Keeps d) (λ _. default_keeps d fields) (λ _.
    cond_both (bytes_eq word (codes "serve")) _ _ (Keeps d) (λ _. serve_keeps d fields) (λ _.
    cond_both (bytes_eq word (codes "payload")) _ _ (Keeps d) (λ _. payload_keeps d fields) (λ _.
    role_keeps d word fields))))

none_sound : IsSound nothing
none_sound = record {
  role = tt;
  homes = refl;
  sendable = refl;
  few_routes = omega arith;
  few_homes = omega arith;
  few_payloads = omega arith;
}

-- a configuration
pub record IsKept (c : Content) : Type 0 where
  pub routable : is_routable (address_of c.role).0 ≡ true
  pub homes : list_all is_home c.serves ≡ true
  pub sendable : list_all is_sendable c.payloads ≡ true
  pub few_routes : length c.routes ≤ 64
  pub few_homes : length c.serves ≤ 8
  pub few_payloads : length c.payloads ≤ 1000

configured_keeps : (head : Head) (w : Walked ConfigDraft) (role : Option Role) (c : Content) → w.draft.role ≡ role → configured head w role ≡ Ok c → IsSound w.draft → IsKept c
configured_keeps head w None c is e sound = absurd cc
configured_keeps head w (Some role) c is e sound =
    subst IsKept (ok_is _ c e) (record {
      routable = subst IsRouted is sound.role;
      homes = sound.homes;
      sendable = sound.sendable;
      few_routes = sound.few_routes;
      few_homes = sound.few_homes;
      few_payloads = sound.few_payloads;
    })

pub reading_keeps : (text : List ℕ) (c : Content) → reading text ≡ Ok c → IsKept c
unfolding reading
reading_keeps text c e =
    let h = bind_ok (head_of (rows_of text)) (λ head. walk line_onto nothing 5 head.rows >>= (λ walked. configured head walked walked.draft.role)) c e in
    let w = bind_ok (walk line_onto nothing 5 h.0.rows) (λ walked. configured h.0 walked walked.draft.role) c h.2 in
    configured_keeps h.0 w.0 w.0.draft.role c refl w.2 (walk_keeps line_onto IsSound line_keeps nothing 5 h.0.rows w.0 w.1 none_sound)
