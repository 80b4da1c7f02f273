-- A field of a trace that is read is spelled so, and is within its range.
use Rattle.std.proofs.Common.{◌≡◌, ℕ, ◌-◌, ◌^◌, ◌<◌, ◌≤◌, List, [], ◌∷◌, Bool, true, false, refl, sym, ap, ◌∙◌, subst, inl, inr, arith}
use Rattle.std.specs.Prelude.{Option, Some, None, Result, Ok, Err, codes, decimal, ◌+◌}
use Rattle.std.specs.Result.{result_ok}
use Rattle.std.specs.Str.{bytes_eq}
use Rattle.std.proofs.lemmas.Bool.{cond_both, cond-true, cond-false, lt-ltb, le-ltb}
use Rattle.std.proofs.lemmas.Slice.Eq.{bytes_eq-Decides}
use Rattle.mip_words.specs.Addresses.{address_read, address_if}
use Rattle.mip_words.specs.Hex.{unhex_exact}
use Rattle.mip_words.specs.declared.address.Address.{Address}
use Rattle.mip_words.specs.declared.ids.LinkId.{LinkId}
use Rattle.mip_words.specs.declared.ids.NodeId.{NodeId}
use Rattle.mip_words.specs.declared.moment.Moment.{Moment}
use Rattle.mip_words.specs.declared.token.Token.{Token}
use Rattle.mip_words.specs.declared.why.Why.{Why}
use Rattle.mip_words.proofs.Fields.{number_at-lt}
use Rattle.mip_words.proofs.StepLaws.{bind_ok, ok_is}
use Rattle.mip_lines.specs.HexFields.{address_in, address_hex, hex_text}
use Rattle.mip_lines.proofs.HexFieldLaws.{unhex_exact-spelled, address_in-spelled, hex_field-spelled}
use Rattle.mip_lines.proofs.Numbers.{number-spelled}
use Rattle.mip_symbols.specs.Places.{AreFew, place_of}
use Rattle.mip_symbols.specs.declared.declaration.Declaration.{Declaration}
use Rattle.mip_symbols.specs.declared.places.Sort.TheVariants as sorts
use Rattle.mip_symbols.specs.declared.reason.Reason.{Reason}
use Rattle.mip_symbols.specs.declared.reason.Reason.TheVariants as reasons
use Rattle.mip_rows.specs.Fields as kinds
use Rattle.mip_rows.specs.Fields.{or_reason, or_none, node_or_outsider, number, moment, address, token, bytes, place, link, node, outsider, who, some_link, some_address, some_token, some_u64, some_u16, shield, answer, why}
use Rattle.mip_rows.specs.Texts.{or_dash, token_hex, shield_mark, yes_or_no}
use Rattle.mip_rows.specs.Names.{node_name, link_name, outsider_name, who_name}
use Rattle.mip_rows.specs.Ranges.{IsNumber, IsMoment, IsAddress, IsToken, AreBytes, IsNode, IsLink, IsOutsider, IsWho, IsCause, IfPresent}
use Rattle.mip_rows.specs.Whys.{why_word, why_among, IsAmong}
use Rattle.mip_rows.proofs.PlaceReads.{place_declared, link_place, node_place, outsider_place}

-- a field that is read is spelled so, and is within its range
abbrev pub Reads : {A E : Type 0} → (List ℕ → Result A E) → (A → List ℕ) → (A → Type 0) → Type 0
Reads {A} r t P = (f : List ℕ) (a : A) → r f ≡ Ok a → (f ≡ t a) × P a

pub same : (xs ys : List ℕ) → bytes_eq xs ys ≡ true → xs ≡ ys
same xs ys test = (bytes_eq-Decides xs ys).0 test

pub is_some : {A : Type 0} (why : Reason) (o : Option A) (a : A) → or_reason why o ≡ Ok a → o ≡ Some a
is_some why (Some x) a e = cc
is_some why None a e = absurd cc

some_is : {A : Type 0} (x y : A) → Some x ≡ Some y → x ≡ y
some_is x y e = cc

pub number-reads : (low high : ℕ) → Reads (kinds.number low high) decimal (λ x. (low ≤ x) × (x ≤ high))
unfolding number
number-reads low high f x e = let p = number-spelled low high f x (is_some _ _ _ e) in (p.0, (p.1, p.2))

pub u8-reads : Reads kinds.u8 decimal (IsNumber 8)
u8-reads f x e = let p = number-reads 0 255 f x e in let most = p.1.1 in (p.0, omega arith)

pub u16-reads : Reads kinds.u16 decimal (IsNumber 16)
u16-reads f x e = let p = number-reads 0 65535 f x e in let most = p.1.1 in (p.0, omega arith)

pub u32-reads : Reads kinds.u32 decimal (IsNumber 32)
u32-reads f x e = let p = number-reads 0 4294967295 f x e in let most = p.1.1 in (p.0, omega arith)

pub u64-reads : Reads kinds.u64 decimal (IsNumber 64)
u64-reads f x e = let p = number-reads 0 18446744073709551615 f x e in let most = p.1.1 in (p.0, omega arith)

pub cause-reads : Reads (kinds.number 1 3) decimal IsCause
cause-reads f x e = number-reads 1 3 f x e

pub moment-reads : Reads kinds.moment (λ m. decimal m.0) IsMoment
unfolding moment
moment-reads f m e =
    let q = bind_ok (kinds.u64 f) (λ x. Ok (record { 0 = x })) m e in
    let p = u64-reads f q.0 q.1 in
    subst (λ (n : Moment). (f ≡ decimal n.0) × IsMoment n) (ok_is _ m q.2) p

address_small : (o : Option (List ℕ)) (f : List ℕ) (a : Address) → unhex_exact 16 f ≡ o → result_ok (address_if o) ≡ Some a → a.0 < 2 ^ 128
address_small None f a is e = absurd cc
address_small (Some bytes) f a is e =
    let s = unhex_exact-spelled 16 f bytes is in
    subst (λ (b : Address). b.0 < 2 ^ 128) (some_is _ a e) (number_at-lt 16 0 bytes s.are_bytes)

address_in_small : (f : List ℕ) (a : Address) → address_in f ≡ Some a → IsAddress a
unfolding address_in address_read
address_in_small f a e = address_small (unhex_exact 16 f) f a refl e

pub address-reads : Reads kinds.address address_hex IsAddress
unfolding address
address-reads f a e = let o = is_some _ (address_in f) a e in (address_in-spelled f a o, address_in_small f a o)

pub token-reads : Reads kinds.token token_hex IsToken
unfolding token
token-reads f t e =
    let q = bind_ok (or_reason reasons.Hex (unhex_exact 8 f)) (λ x. Ok (record { 0 = x })) t e in
    let s = unhex_exact-spelled 8 f q.0 (is_some _ _ _ q.1) in
    subst (λ (n : Token). (f ≡ token_hex n) × IsToken n) (ok_is _ t q.2) (s.digits, (s.size, s.are_bytes))

pub bytes-reads : Reads kinds.bytes hex_text AreBytes
unfolding bytes
bytes-reads f b e =
    let s = hex_field-spelled 4294967295 f b (is_some _ _ _ e) in
    let most = s.size in
    (s.text, (omega arith, s.are_bytes))

pub link-reads : (ds : List Declaration) → Reads (kinds.link ds) (link_name (Some ds)) (IsLink ds)
unfolding link place link_name
link-reads ds f l e =
    let q = bind_ok (or_reason reasons.Name (place_of sorts.Link f ds)) (λ p. Ok (record { 0 = p })) l e in
    let o = is_some _ _ _ q.1 in
    subst (λ (m : LinkId). (f ≡ link_name (Some ds) m) × IsLink ds m) (ok_is _ l q.2) (link_place ds f q.0 o, place_declared sorts.Link f ds q.0 o)

pub node-reads : (ds : List Declaration) → Reads (kinds.node sorts.Node ds) (node_name (Some ds)) (IsNode ds)
unfolding node place node_name
node-reads ds f n e =
    let q = bind_ok (or_reason reasons.Name (place_of sorts.Node f ds)) (λ p. Ok (record { 0 = p })) n e in
    let o = is_some _ _ _ q.1 in
    subst (λ (m : NodeId). (f ≡ node_name (Some ds) m) × IsNode ds m) (ok_is _ n q.2) (node_place ds f q.0 o, place_declared sorts.Node f ds q.0 o)

pub outsider-reads : (ds : List Declaration) → Reads (kinds.outsider ds) (outsider_name (Some ds)) (IsOutsider ds)
unfolding outsider place outsider_name
outsider-reads ds f x e = let o = is_some _ _ _ e in (outsider_place ds f x o, place_declared sorts.Outsider f ds x o)

-- a number of a node, or of an outsider
node_who : (ds : List Declaration) → AreFew ds → (f : List ℕ) (w : ℕ) → kinds.place sorts.Node ds f ≡ Ok w → (f ≡ who_name (Some ds) w) × IsWho ds w
unfolding place who_name node_name
node_who ds few f w e =
    let o = is_some _ _ _ e in
    let declared = place_declared sorts.Node f ds w o in
    let small : w < 32 = omega (arith, few.nodes) in
    (node_place ds f w o ∙ sym (cond-true _ _ _ (lt-ltb w 32 small)), inl declared)

outsider_who : (ds : List Declaration) (f : List ℕ) (x : ℕ) → kinds.outsider ds f ≡ Ok x → (f ≡ who_name (Some ds) (32 + x)) × IsWho ds (32 + x)
unfolding who_name
outsider_who ds f x e =
    let p = outsider-reads ds f x e in
    let back : 32 + x - 32 ≡ x = omega arith in
    (p.0 ∙ ap (outsider_name (Some ds)) (sym back) ∙ sym (cond-false _ _ _ (le-ltb (32 + x) 32 (omega arith))), inr (x, p.1, refl))

pub who-reads : (ds : List Declaration) → AreFew ds → Reads (kinds.who ds) (who_name (Some ds)) (IsWho ds)
unfolding who
who-reads ds few f w = by (kinds.place sorts.Node ds f) (kinds.outsider ds f) refl refl
  where
    by : (n r : Result ℕ Reason) → kinds.place sorts.Node ds f ≡ n → kinds.outsider ds f ≡ r → node_or_outsider n r ≡ Ok w → (f ≡ who_name (Some ds) w) × IsWho ds w
    by (Ok n) r is other e = node_who ds few f w (is ∙ ap (λ (x : ℕ). Ok x) (ok_is n w e))
    by (Err b) (Ok x) is other e = subst (λ (y : ℕ). (f ≡ who_name (Some ds) y) × IsWho ds y) (ok_is (32 + x) w e) (outsider_who ds f x other)
    by (Err b) (Err d) is other e = absurd cc

or_none-reads : {A : Type 0} (read : List ℕ → Result A Reason) (text : A → List ℕ) (P : A → Type 0) → Reads read text P → Reads (or_none read) (or_dash text) (IfPresent P)
or_none-reads {A} read text P reads f o =
    let Q : Option A → Type 0 = λ x. (f ≡ or_dash text x) × IfPresent P x in
    cond_both (bytes_eq f (codes "-")) _ _ (λ (r : Result (Option A) Reason). r ≡ Ok o → Q o)
    (λ test e. subst Q (ok_is None o e) (same f (codes "-") test, tt))
    (λ _ e.
    let x = bind_ok (read f) (λ y. Ok (Some y)) o e in
    subst Q (ok_is (Some x.0) o x.2) (reads f x.0 x.1))

pub some_link-reads : (ds : List Declaration) → Reads (kinds.some_link ds) (or_dash (link_name (Some ds))) (IfPresent (IsLink ds))
unfolding some_link
some_link-reads ds = or_none-reads (kinds.link ds) (link_name (Some ds)) (IsLink ds) (link-reads ds)

pub some_address-reads : Reads kinds.some_address (or_dash address_hex) (IfPresent IsAddress)
unfolding some_address
some_address-reads = or_none-reads kinds.address address_hex IsAddress address-reads

pub some_token-reads : Reads kinds.some_token (or_dash token_hex) (IfPresent IsToken)
unfolding some_token
some_token-reads = or_none-reads kinds.token token_hex IsToken token-reads

pub some_u64-reads : Reads kinds.some_u64 (or_dash decimal) (IfPresent (IsNumber 64))
unfolding some_u64
some_u64-reads = or_none-reads kinds.u64 decimal (IsNumber 64) u64-reads

pub some_u16-reads : Reads kinds.some_u16 (or_dash decimal) (IfPresent (IsNumber 16))
unfolding some_u16
some_u16-reads = or_none-reads kinds.u16 decimal (IsNumber 16) u16-reads

-- anything: no range
abbrev pub Any : {A : Type 0} → A → Type 0
Any x = Unit {0}

pub shield-reads : Reads kinds.shield shield_mark Any
unfolding shield
shield-reads f b =
    let P : Result Bool Reason → Type 0 = λ r. r ≡ Ok b → (f ≡ shield_mark b) × Any b in
    cond_both (bytes_eq f (codes "+")) _ _ P (λ test e. (same f (codes "+") test ∙ ap shield_mark (ok_is true b e), tt)) (λ _.
    cond_both (bytes_eq f (codes "-")) _ _ P (λ test e. (same f (codes "-") test ∙ ap shield_mark (ok_is false b e), tt)) (λ _ e. absurd cc))

pub answer-reads : Reads kinds.answer yes_or_no Any
unfolding answer
answer-reads f b =
    let P : Result Bool Reason → Type 0 = λ r. r ≡ Ok b → (f ≡ yes_or_no b) × Any b in
    cond_both (bytes_eq f (codes "yes")) _ _ P (λ test e. (same f (codes "yes") test ∙ ap yes_or_no (ok_is true b e), tt)) (λ _.
    cond_both (bytes_eq f (codes "no")) _ _ P (λ test e. (same f (codes "no") test ∙ ap yes_or_no (ok_is false b e), tt)) (λ _ e. absurd cc))

among-reads : (some : List Why) (f : List ℕ) (w : Why) → why_among some f ≡ Some w → (f ≡ why_word w) × IsAmong some w
among-reads [] f w = λ e. absurd cc
among-reads (first ∷ more) f w =
    cond_both (bytes_eq (why_word first) f) _ _ (λ (o : Option Why). o ≡ Some w → (f ≡ why_word w) × IsAmong (first ∷ more) w)
    (λ test e. (sym (same (why_word first) f test) ∙ ap why_word (some_is first w e), inl (sym (some_is first w e))))
    (λ _ e. let p = among-reads more f w e in (p.0, inr p.1))

pub why-reads : (some : List Why) → Reads (kinds.why some) why_word (IsAmong some)
unfolding why
why-reads some f w e = among-reads some f w (is_some _ _ _ e)
