-- What is read of a line of a configuration is in the grammar.
use Rattle.std.proofs.Common.{◌≡◌, ℕ, zero, suc, ◌<◌, ◌^◌, List, [], ◌∷◌, length, true, false, refl, sym, ap, subst}
use Rattle.std.specs.Prelude.{Option, Some, None, Result, Ok, codes, ◌&&◌, nat_le, nat_lt, not}
use Rattle.std.specs.Result.{result_ok}
use Rattle.std.specs.Str.{bytes_eq}
use Rattle.std.proofs.lemmas.Bool.{cond_both, and_from, le-leb, lt-ltb, not_from_false}
use Rattle.mip_words.specs.Addresses.{is_routable, address_at, address_if, address_read}
use Rattle.mip_words.specs.Hex.{unhex_exact}
use Rattle.mip_words.specs.Numbers.{IsBytes}
use Rattle.mip_words.specs.Steps.{◌>>=◌}
use Rattle.mip_words.specs.declared.address.Address.{Address}
use Rattle.mip_words.specs.declared.prefix.Prefix.{Prefix}
use Rattle.mip_words.proofs.Fields.{number_at-lt}
use Rattle.mip_words.proofs.StepLaws.{bind_ok, ok_is}
use Rattle.mip_lines.specs.HexFields.{address_in, hex_number}
use Rattle.mip_lines.specs.Rows.{row1, row2, row4}
use Rattle.mip_lines.proofs.HexFieldLaws.{unhex_exact-spelled, hex_number-spelled, hex_field-spelled}
use Rattle.mip_symbols.specs.Kinds as kinds
use Rattle.mip_symbols.specs.Kinds.{or_reason, to_host, address, prefix, seed, bytes}
use Rattle.mip_symbols.specs.declared.reason.Reason.{Reason}
use Rattle.mip_symbols.specs.declared.reason.Reason.TheVariants as reasons
use Rattle.mip_symbols.proofs.KindLaws.{number-within, option_is}
use Rattle.mip_frames.specs.declared.route.Route.{Route}
use Rattle.mip_schedule.specs.EventTimes.{is_reserved}
use Rattle.mip_config.specs.Rows.{some_agent, route_row, default_row, agent_row, correspondent_row, mobile_row, role_row, serve_row, payload_row}
use Rattle.mip_config.specs.declared.payload.Payload.{Payload}
use Rattle.mip_config.specs.declared.role.Role.{Role}
use Rattle.mip_config.specs.declared.role.Role.TheVariants.{Agent, Correspondent, Mobile}
use Rattle.mip_config_writing.specs.Grammar.{is_within, are_bytes, is_port, is_route, is_address, is_some_address, is_role, is_payload}

-- fields
pub number_is_within : (low high : ℕ) (f : List ℕ) (n : ℕ) → kinds.number low high f ≡ Ok n → is_within low high n ≡ true
number_is_within low high f n e =
    let p = number-within low high f n e in
    and_from (nat_le low n) (nat_le n high) (le-leb low n p.0) (le-leb n high p.1)

bytes_all : (bs : List ℕ) → IsBytes bs → are_bytes bs ≡ true
bytes_all [] are = refl
bytes_all (b ∷ bs) are = and_from (nat_lt b 256) (are_bytes bs) (lt-ltb b 256 (are zero)) (bytes_all bs (λ i. are (suc i)))

read_small : (f : List ℕ) (o : Option (List ℕ)) (a : Address) → unhex_exact 16 f ≡ o → result_ok (address_if o) ≡ Some a → a.0 < 2 ^ 128
read_small f None a is e = absurd cc
read_small f (Some bs) a is e =
    let same : address_at 0 bs ≡ a = cc in
    subst (λ (x : Address). x.0 < 2 ^ 128) same (number_at-lt 16 0 bs (unhex_exact-spelled 16 f bs is).are_bytes)

address_small : (f : List ℕ) (a : Address) → address_in f ≡ Some a → a.0 < 2 ^ 128
unfolding address_in address_read
address_small f a e = read_small f (unhex_exact 16 f) a refl e

to_address : (f : List ℕ) (o : Option Address) (a : Address) → address_in f ≡ o → to_host o ≡ Ok a → is_address a ≡ true
to_address f None a is = λ e. absurd cc
to_address f (Some b) a is =
    cond_both (is_routable b.0) _ _ (λ (r : Result Address Reason). r ≡ Ok a → is_address a ≡ true)
    (λ test e. subst (λ (x : Address). is_address x ≡ true) (ok_is b a e) (and_from (nat_lt b.0 (2 ^ 128)) (is_routable b.0) (lt-ltb b.0 (2 ^ 128) (address_small f b is)) test))
    (λ _ e. absurd cc)

pub address_is : (f : List ℕ) (a : Address) → kinds.address f ≡ Ok a → is_address a ≡ true
unfolding address
address_is f a e = to_address f (address_in f) a refl e

prefix_is : (f : List ℕ) (p : Prefix) → kinds.prefix f ≡ Ok p → nat_lt p.0 (2 ^ 64) ≡ true
unfolding prefix
prefix_is f p e =
    let x = bind_ok (or_reason reasons.Hex (hex_number 8 f)) (λ n. Ok (record { 0 = n })) p e in
    subst (λ (q : Prefix). nat_lt q.0 (2 ^ 64) ≡ true) (ok_is _ p x.2) (lt-ltb x.0 (2 ^ 64) (hex_number-spelled 8 f x.0 (option_is _ _ _ x.1)).small)

pub seed_is : (f s : List ℕ) → kinds.seed f ≡ Ok s → (are_bytes s ≡ true) × (length s ≡ 32)
unfolding seed
seed_is f s e =
    let is = unhex_exact-spelled 32 f s (option_is _ _ _ e) in
    (bytes_all s is.are_bytes, is.size)

bytes_within : (f b : List ℕ) → kinds.bytes 512 f ≡ Ok b → (nat_le (length b) 512 ≡ true) × (are_bytes b ≡ true)
unfolding bytes
bytes_within f b e =
    let is = hex_field-spelled 512 f b (option_is _ _ _ e) in
    (le-leb (length b) 512 is.size, bytes_all b is.are_bytes)

agent_is : (f : List ℕ) (o : Option Address) → some_agent f ≡ Ok o → is_some_address o ≡ true
agent_is f o =
    cond_both (bytes_eq f (codes "find")) _ _ (λ (r : Result (Option Address) Reason). r ≡ Ok o → is_some_address o ≡ true)
    (λ _ e. ap is_some_address (sym (ok_is None o e)))
    (λ _ e.
    let x = bind_ok (kinds.address f) (λ y. Ok (Some y)) o e in
    subst (λ (p : Option Address). is_some_address p ≡ true) (ok_is (Some x.0) o x.2) (address_is f x.0 x.1))

-- rows: what holds of all that its kinds of field give holds of what a row gives
row1_holds : {A1 X E : Type 0} (e : E) (k1 : List ℕ → Result A1 E) (to : A1 → X) (P : X → Type 0)
    → ((c1 : List ℕ) (a1 : A1) → k1 c1 ≡ Ok a1 → P (to a1)) → (fields : List (List ℕ)) (x : X) → row1 e k1 to fields ≡ Ok x → P x
row1_holds e k1 to P holds [] x is = absurd cc
row1_holds e k1 to P holds (c1 ∷ []) x is =
    let p = bind_ok (k1 c1) (λ a1. Ok (to a1)) x is in
    subst P (ok_is (to p.0) x p.2) (holds c1 p.0 p.1)
row1_holds e k1 to P holds (c1 ∷ g ∷ more) x is = absurd cc

row2_holds : {A1 A2 X E : Type 0} (e : E) (k1 : List ℕ → Result A1 E) (k2 : List ℕ → Result A2 E) (to : A1 → A2 → X) (P : X → Type 0)
    → ((c1 : List ℕ) (a1 : A1) (c2 : List ℕ) (a2 : A2) → k1 c1 ≡ Ok a1 → k2 c2 ≡ Ok a2 → P (to a1 a2)) → (fields : List (List ℕ)) (x : X) → row2 e k1 k2 to fields ≡ Ok x → P x
row2_holds e k1 k2 to P holds [] x is = absurd cc
row2_holds e k1 k2 to P holds (c1 ∷ []) x is = absurd cc
row2_holds e k1 k2 to P holds (c1 ∷ c2 ∷ []) x is =
    let p = bind_ok (k1 c1) (λ a1. k2 c2 >>= (λ a2. Ok (to a1 a2))) x is in
    let q = bind_ok (k2 c2) (λ a2. Ok (to p.0 a2)) x p.2 in
    subst P (ok_is (to p.0 q.0) x q.2) (holds c1 p.0 c2 q.0 p.1 q.1)
row2_holds e k1 k2 to P holds (c1 ∷ c2 ∷ g ∷ more) x is = absurd cc

row4_holds : {A1 A2 A3 A4 X E : Type 0} (e : E) (k1 : List ℕ → Result A1 E) (k2 : List ℕ → Result A2 E) (k3 : List ℕ → Result A3 E) (k4 : List ℕ → Result A4 E) (to : A1 → A2 → A3 → A4 → X) (P : X → Type 0)
    → ((c1 : List ℕ) (a1 : A1) (c2 : List ℕ) (a2 : A2) (c3 : List ℕ) (a3 : A3) (c4 : List ℕ) (a4 : A4) → k1 c1 ≡ Ok a1 → k2 c2 ≡ Ok a2 → k3 c3 ≡ Ok a3 → k4 c4 ≡ Ok a4 → P (to a1 a2 a3 a4))
    → (fields : List (List ℕ)) (x : X) → row4 e k1 k2 k3 k4 to fields ≡ Ok x → P x
row4_holds e k1 k2 k3 k4 to P holds [] x is = absurd cc
row4_holds e k1 k2 k3 k4 to P holds (c1 ∷ []) x is = absurd cc
row4_holds e k1 k2 k3 k4 to P holds (c1 ∷ c2 ∷ []) x is = absurd cc
row4_holds e k1 k2 k3 k4 to P holds (c1 ∷ c2 ∷ c3 ∷ []) x is = absurd cc
row4_holds e k1 k2 k3 k4 to P holds (c1 ∷ c2 ∷ c3 ∷ c4 ∷ []) x is =
    let p = bind_ok (k1 c1) (λ a1. k2 c2 >>= (λ a2. k3 c3 >>= (λ a3. k4 c4 >>= (λ a4. Ok (to a1 a2 a3 a4))))) x is in
    let q = bind_ok (k2 c2) (λ a2. k3 c3 >>= (λ a3. k4 c4 >>= (λ a4. Ok (to p.0 a2 a3 a4)))) x p.2 in
    let r = bind_ok (k3 c3) (λ a3. k4 c4 >>= (λ a4. Ok (to p.0 q.0 a3 a4))) x q.2 in
    let s = bind_ok (k4 c4) (λ a4. Ok (to p.0 q.0 r.0 a4)) x r.2 in
    subst P {x = to p.0 q.0 r.0 s.0} (ok_is (to p.0 q.0 r.0 s.0) x s.2) (holds c1 p.0 c2 q.0 c3 r.0 c4 s.0 p.1 q.1 r.1 s.1)
row4_holds e k1 k2 k3 k4 to P holds (c1 ∷ c2 ∷ c3 ∷ c4 ∷ g ∷ more) x is = absurd cc

-- lines
pub route_within : (fields : List (List ℕ)) (r : Route) → route_row fields ≡ Ok r → is_route r ≡ true
unfolding route_row
route_within =
    row2_holds reasons.Form kinds.prefix (kinds.number 1 65535) (λ p n. record { prefix = p; port = n }) (λ (r : Route). is_route r ≡ true)
    (λ f p g n a b. and_from (nat_lt p.0 (2 ^ 64)) (is_port n) (prefix_is f p a) (number_is_within 1 65535 g n b))

pub default_within : (fields : List (List ℕ)) (n : ℕ) → default_row fields ≡ Ok n → is_port n ≡ true
unfolding default_row
default_within = row1_holds reasons.Form (kinds.number 1 65535) (λ n. n) (λ n. is_port n ≡ true) (number_is_within 1 65535)

agent_within : (fields : List (List ℕ)) (role : Role) → agent_row fields ≡ Ok role → is_role role ≡ true
unfolding agent_row
agent_within =
    row4_holds reasons.Form kinds.address (kinds.number 0 65535) (kinds.number 0 65535) (kinds.number 1 64) (λ a p l r. Agent a p l r) (λ role. is_role role ≡ true)
    (λ f1 a f2 p f3 l f4 r e1 e2 e3 e4. and_from (is_address a) (is_within 0 65535 p && (is_within 0 65535 l && is_within 1 64 r)) (address_is f1 a e1)
    (and_from (is_within 0 65535 p) (is_within 0 65535 l && is_within 1 64 r) (number_is_within 0 65535 f2 p e2)
    (and_from (is_within 0 65535 l) (is_within 1 64 r) (number_is_within 0 65535 f3 l e3) (number_is_within 1 64 f4 r e4))))

correspondent_within : (fields : List (List ℕ)) (role : Role) → correspondent_row fields ≡ Ok role → is_role role ≡ true
unfolding correspondent_row
correspondent_within =
    row2_holds reasons.Form kinds.address (kinds.number 1 64) (λ a r. Correspondent a r) (λ role. is_role role ≡ true)
    (λ f a g r e1 e2. and_from (is_address a) (is_within 1 64 r) (address_is f a e1) (number_is_within 1 64 g r e2))

mobile_within : (fields : List (List ℕ)) (role : Role) → mobile_row fields ≡ Ok role → is_role role ≡ true
unfolding mobile_row
mobile_within =
    row2_holds reasons.Form kinds.address some_agent (λ a g. Mobile a g) (λ role. is_role role ≡ true)
    (λ f a h g e1 e2. and_from (is_address a) (is_some_address g) (address_is f a e1) (agent_is h g e2))

pub role_within : (word : List ℕ) (fields : List (List ℕ)) (role : Role) → role_row word fields ≡ Ok role → is_role role ≡ true
unfolding role_row
role_within word fields role =
    let P : Result Role Reason → Type 0 = λ r. r ≡ Ok role → is_role role ≡ true in
    cond_both (bytes_eq word (codes "agent")) _ _ P (λ _. agent_within fields role) (λ _.
    cond_both (bytes_eq word (codes "correspondent")) _ _ P (λ _. correspondent_within fields role) (λ _.
    cond_both (bytes_eq word (codes "mobile")) _ _ P (λ _. mobile_within fields role) (λ _.
    λ e. absurd cc)))

pub serve_within : (fields : List (List ℕ)) (a : Address) → serve_row fields ≡ Ok a → is_address a ≡ true
unfolding serve_row
serve_within = row1_holds reasons.Form kinds.address (λ a. a) (λ a. is_address a ≡ true) address_is

-- where its protocol may be sent
abbrev IsPayloadIfFree : Payload → Type 0
IsPayloadIfFree p = is_reserved p.proto ≡ false → is_payload p ≡ true

pub payload_within : (fields : List (List ℕ)) (p : Payload) → payload_row fields ≡ Ok p → is_reserved p.proto ≡ false → is_payload p ≡ true
unfolding payload_row
payload_within =
    row4_holds reasons.Form (kinds.number 1 1000000) kinds.address (kinds.number 0 255) (kinds.bytes 512) (λ t a p b. record { turn = t; to = a; proto = p; payload = b }) IsPayloadIfFree
    (λ f1 t f2 a f3 n f4 b e1 e2 e3 e4 free.
    let size = bytes_within f4 b e4 in
    and_from (is_within 1 1000000 t) (is_address a && (is_within 0 255 n && (not (is_reserved n) && (nat_le (length b) 512 && are_bytes b)))) (number_is_within 1 1000000 f1 t e1)
    (and_from (is_address a) (is_within 0 255 n && (not (is_reserved n) && (nat_le (length b) 512 && are_bytes b))) (address_is f2 a e2)
    (and_from (is_within 0 255 n) (not (is_reserved n) && (nat_le (length b) 512 && are_bytes b)) (number_is_within 0 255 f3 n e3)
    (and_from (not (is_reserved n)) (nat_le (length b) 512 && are_bytes b) (not_from_false (is_reserved n) free)
    (and_from (nat_le (length b) 512) (are_bytes b) size.0 size.1)))))
