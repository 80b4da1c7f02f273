-- A field that is read is spelled so.
use Rattle.std.proofs.Common.{◌≡◌, ℕ, zero, suc, ◌<◌, ◌≤◌, List, [], ◌∷◌, ◌++◌, length, get_or, Bool, true, false, not, cond, refl, sym, ap, ◌∙◌, subst, arith, nat_lt}
use Rattle.std.specs.Prelude.{Option, Some, None, Result, Ok, Err, codes, decimal, replicate, slice_get, ◌&&◌, ◌-◌}
use Rattle.std.specs.List.{position, position_or_len}
use Rattle.std.specs.Str.{bytes_eq}
use Rattle.std.proofs.lemmas.Bool.{cond_both, and_parts, not-false, ltb-true}
use Rattle.std.proofs.lemmas.List.{take_at}
use Rattle.std.proofs.lemmas.List.Sums.{prefix_len_stops}
use Rattle.std.proofs.lemmas.Slice.Eq.{bytes_eq-Decides}
use Rattle.mip_words.specs.Addresses.{is_routable}
use Rattle.mip_words.specs.Hex.{hex_of}
use Rattle.mip_words.specs.declared.address.Address.{Address}
use Rattle.mip_words.specs.declared.prefix.Prefix.{Prefix}
use Rattle.mip_words.specs.declared.ids.NodeId.{NodeId}
use Rattle.mip_words.specs.declared.token.Cookie.{Cookie}
use Rattle.mip_words.proofs.StepLaws.{bind_ok, ok_is}
use Rattle.mip_lines.specs.HexFields.{hex_number, number_hex, address_in, address_hex, hex_text}
use Rattle.mip_lines.specs.RowsLaws.{Spells}
use Rattle.mip_lines.proofs.HexFieldLaws.{unhex_exact-spelled, hex_number-spelled, address_in-spelled, hex_field-spelled}
use Rattle.mip_lines.proofs.Numbers.{number-spelled}
use Rattle.mip_symbols.specs.Kinds as kinds
use Rattle.mip_symbols.specs.Kinds.{or_reason, to_host, or_none, number, address, prefix, cookie, seed, bytes, new_name, place, link, node, outsider, some_link, some_agent, some_packet, careof}
use Rattle.mip_symbols.specs.Names.{is_name, name_bytes, name_of}
use Rattle.mip_symbols.specs.Places.{members, fits, is_named, is_taken, place_of, declared_name, name_text, name_at}
use Rattle.mip_symbols.specs.Spelled.{link_text, node_text, outsider_text, or_word, careof_text}
use Rattle.mip_symbols.specs.declared.declaration.Declaration.{Declaration}
use Rattle.mip_symbols.specs.declared.declaration.Declaration.TheVariants as declare
use Rattle.mip_symbols.specs.declared.name.Name.{Name}
use Rattle.mip_symbols.specs.declared.places.Sort.{Sort}
use Rattle.mip_symbols.specs.declared.places.Sort.TheVariants as sorts
use Rattle.mip_symbols.specs.declared.reason.Reason.{Reason}
use Rattle.mip_symbols.specs.declared.reason.Reason.TheVariants as reasons

same : (xs ys : List ℕ) → bytes_eq xs ys ≡ true → xs ≡ ys
same xs ys test = (bytes_eq-Decides xs ys).0 test

-- a line that begins with this word
pub worded : (w word : List ℕ) (fields row : List (List ℕ)) → bytes_eq w word ≡ true → word ∷ fields ≡ row → w ∷ fields ≡ row
worded w word fields row test e = ap (λ (x : List ℕ). x ∷ fields) (same w word test) ∙ e

pub option_is : {A : Type 0} (why : Reason) (o : Option A) (a : A) → or_reason why o ≡ Ok a → o ≡ Some a
option_is why (Some x) a e = cc
option_is why None a e = absurd cc

pub number-spells : (low high : ℕ) → Spells (kinds.number low high) decimal
unfolding number
number-spells low high f x e = (number-spelled low high f x (option_is _ _ _ e)).0

pub number-within : (low high : ℕ) (f : List ℕ) (x : ℕ) → kinds.number low high f ≡ Ok x → (low ≤ x) × (x ≤ high)
unfolding number
number-within low high f x e = let p = number-spelled low high f x (option_is _ _ _ e) in (p.1, p.2)

host_is : (o : Option Address) (a : Address) → to_host o ≡ Ok a → o ≡ Some a
host_is None a = λ e. absurd cc
host_is (Some b) a = by (is_routable b.0)
  where
    by : (r : Bool) → cond r (Ok b) (Err reasons.Address) ≡ Ok a → Some b ≡ Some a
    by true e = cc
    by false e = absurd cc

pub address-spells : Spells kinds.address address_hex
unfolding address
address-spells f a e = address_in-spelled f a (host_is (address_in f) a e)

pub prefix-spells : Spells kinds.prefix (λ p. number_hex 8 p.0)
unfolding prefix
prefix-spells f p e =
    let x = bind_ok (or_reason _ (hex_number 8 f)) (λ n. Ok (record { 0 = n })) p e in
    (hex_number-spelled 8 f x.0 (option_is _ _ _ x.1)).digits ∙ ap (λ (q : Prefix). number_hex 8 q.0) (ok_is _ _ x.2)

pub cookie-spells : Spells kinds.cookie (λ p. number_hex 8 p.0)
unfolding cookie
cookie-spells f p e =
    let x = bind_ok (or_reason _ (hex_number 8 f)) (λ n. Ok (record { 0 = n })) p e in
    (hex_number-spelled 8 f x.0 (option_is _ _ _ x.1)).digits ∙ ap (λ (q : Cookie). number_hex 8 q.0) (ok_is _ _ x.2)

pub seed-spells : Spells kinds.seed hex_of
unfolding seed
seed-spells f s e = (unhex_exact-spelled 32 f s (option_is _ _ _ e)).digits

pub bytes-spells : (most : ℕ) → Spells (kinds.bytes most) hex_text
unfolding bytes
bytes-spells most f b e = (hex_field-spelled most f b (option_is _ _ _ e)).text

name_is : (f : List ℕ) (n : Name) → name_of f ≡ Some n → f ≡ name_bytes n
unfolding name_of
name_is f n = by (is_name f)
  where
    by : (b : Bool) → cond b (Some (record { length = length f; letters = f ++ replicate (8 - length f) 0 })) None ≡ Some n → f ≡ name_bytes n
    by true e = sym (take_at f (replicate (8 - length f) 0) (length f) refl) ∙ ap name_bytes (some_name _ n e)
      where
        some_name : (x y : Name) → Some x ≡ Some y → x ≡ y
        some_name x y e = cc
    by false e = absurd cc

pub new_name-spells : (ds : List Declaration) → Spells (kinds.new_name ds) name_bytes
unfolding new_name
new_name-spells ds f n = by (is_taken ds f)
  where
    by : (b : Bool) → cond b (Err reasons.Name) (or_reason reasons.Name (name_of f)) ≡ Ok n → f ≡ name_bytes n
    by true e = absurd cc
    by false e = name_is f n (option_is _ _ _ e)

get_some : {X : Type 0} (xs : List X) (i : ℕ) → i < length xs → (x : X) × (slice_get xs i ≡ Some x) × ((d : X) → get_or xs i d ≡ x)
get_some [] i inside = absurd (omega arith)
get_some (x ∷ xs) zero inside = (x, refl, λ d. refl)
get_some (x ∷ xs) (suc i) inside = get_some xs i (omega arith)

-- what stands at the first place that passes
found : {X : Type 0} (p : X → Bool) (xs : List X) (i : ℕ) → position p xs ≡ Some i → (x : X) × (slice_get xs i ≡ Some x) × (p x ≡ true)
found {X} p xs i =
    let at : ℕ = position_or_len p xs in
    cond_both (nat_lt at (length xs)) _ _ (λ (o : Option ℕ). o ≡ Some i → (x : X) × (slice_get xs i ≡ Some x) × (p x ≡ true))
    (λ near e.
    let e2 : at ≡ i = cc in
    let inside : at < length xs = ltb-true at (length xs) near in
    let g = get_some xs at inside in
    let stops : p (get_or xs at g.0) ≡ true = not-false _ (prefix_len_stops (λ x. not (p x)) xs g.0 inside) in
    subst (λ (k : ℕ). (x : X) × (slice_get xs k ≡ Some x) × (p x ≡ true)) e2 (g.0, g.1, ap p (sym (g.2 g.0)) ∙ stops))
    (λ _ e. absurd cc)

named : (f : List ℕ) (d : Declaration) → is_named f d ≡ true → f ≡ declared_name d
named f (declare.Link n p) test = sym (same (name_bytes n) f test)
named f (declare.Agent n l a p t r) test = sym (same (name_bytes n) f test)
named f (declare.Correspondent n l a r) test = sym (same (name_bytes n) f test)
named f (declare.Mobile n l a g) test = sym (same (name_bytes n) f test)
named f (declare.Outsider n) test = sym (same (name_bytes n) f test)
named f (declare.Serve g m) test = absurd cc

place-spells : (sort : Sort) (ds : List Declaration) → Spells (kinds.place sort ds) (λ p. name_at sort p ds)
unfolding place place_of name_at
place-spells sort ds f p e =
    let x = found (λ d. fits sort d && is_named f d) (members sort ds) p (option_is _ _ _ e) in
    named f x.0 (and_parts (fits sort x.0) (is_named f x.0) x.2).1 ∙ ap name_text (sym x.1)

pub link-spells : (ds : List Declaration) → Spells (kinds.link ds) (link_text ds)
unfolding link
link-spells ds f l e =
    let x = bind_ok (kinds.place sorts.Link ds f) (λ p. Ok (record { 0 = p })) l e in
    place-spells sorts.Link ds f x.0 x.1 ∙ ap (link_text ds) (ok_is _ _ x.2)

sort-spells : (sort : Sort) (ds : List Declaration) → Spells (kinds.node sort ds) (λ n. name_at sort n.0 ds)
unfolding node
sort-spells sort ds f n e =
    let x = bind_ok (kinds.place sort ds f) (λ p. Ok (record { 0 = p })) n e in
    place-spells sort ds f x.0 x.1 ∙ ap (λ (m : NodeId). name_at sort m.0 ds) (ok_is _ _ x.2)

pub node-spells : (ds : List Declaration) → Spells (kinds.node sorts.Node ds) (node_text ds)
node-spells ds = sort-spells sorts.Node ds

pub agent-spells : (ds : List Declaration) → Spells (kinds.node sorts.Agent ds) (node_text ds)
unfolding name_at members
agent-spells ds = sort-spells sorts.Agent ds

pub mobile-spells : (ds : List Declaration) → Spells (kinds.node sorts.Mobile ds) (node_text ds)
unfolding name_at members
mobile-spells ds = sort-spells sorts.Mobile ds

pub host-spells : (ds : List Declaration) → Spells (kinds.node sorts.Host ds) (node_text ds)
unfolding name_at members
host-spells ds = sort-spells sorts.Host ds

pub outsider-spells : (ds : List Declaration) → Spells (kinds.outsider ds) (outsider_text ds)
unfolding outsider
outsider-spells ds = place-spells sorts.Outsider ds

or_none-spells : {A : Type 0} (word : List ℕ) (read : List ℕ → Result A Reason) (text : A → List ℕ) → Spells read text → Spells (or_none word read) (or_word word text)
or_none-spells {A} word read text spells f o =
    cond_both (bytes_eq f word) _ _ (λ (r : Result (Option A) Reason). r ≡ Ok o → f ≡ or_word word text o)
    (λ test e. same f word test ∙ ap (or_word word text) (ok_is None o e))
    (λ _ e.
    let x = bind_ok (read f) (λ y. Ok (Some y)) o e in
    spells f x.0 x.1 ∙ ap (or_word word text) (ok_is (Some x.0) o x.2))

pub some_link-spells : (ds : List Declaration) → Spells (kinds.some_link ds) (or_word (codes "-") (link_text ds))
unfolding some_link
some_link-spells ds = or_none-spells (codes "-") (kinds.link ds) (link_text ds) (link-spells ds)

pub some_agent-spells : (ds : List Declaration) → Spells (kinds.some_agent ds) (or_word (codes "find") (node_text ds))
unfolding some_agent
some_agent-spells ds = or_none-spells (codes "find") (kinds.node sorts.Agent ds) (node_text ds) (agent-spells ds)

pub some_packet-spells : Spells kinds.some_packet (or_word (codes "-") decimal)
unfolding some_packet
some_packet-spells = or_none-spells (codes "-") (kinds.number 0 4294967295) decimal (number-spells 0 4294967295)

pub careof-spells : Spells kinds.careof careof_text
unfolding careof
careof-spells f b =
    let P : Result Bool Reason → Type 0 = λ r. r ≡ Ok b → f ≡ careof_text b in
    cond_both (bytes_eq f (codes "home")) _ _ P (λ test e. same f (codes "home") test ∙ ap careof_text (ok_is false b e)) (λ _.
    cond_both (bytes_eq f (codes "careof")) _ _ P (λ test e. same f (codes "careof") test ∙ ap careof_text (ok_is true b e)) (λ _ e. absurd cc))
