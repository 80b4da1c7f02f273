-- A field of a trace that is within its range is read from its spelling.
use Rattle.std.proofs.Common.{◌≡◌, ℕ, ◌-◌, ◌^◌, ◌<◌, ◌≤◌, List, [], ◌∷◌, length, Bool, true, false, refl, sym, ap, ◌∙◌, subst, inl, inr, arith}
use Rattle.std.specs.Prelude.{Option, Some, None, Result, Ok, Err, codes, decimal, ◌+◌}
use Rattle.std.specs.Char.{digit_value}
use Rattle.std.specs.Str.Parse.{AllDigits}
use Rattle.std.proofs.lemmas.Bool.{cond-true, cond-false, lt-ltb, le-ltb, false_from_ne_true}
use Rattle.std.proofs.lemmas.Fmt.{decimal_is_IsNumeral}
use Rattle.std.proofs.lemmas.Slice.Eq.{bytes_eq-Decides}
use Rattle.mip_words.specs.Steps.{◌>>=◌}
use Rattle.mip_words.specs.declared.address.Address.{Address}
use Rattle.mip_words.specs.declared.ids.LinkId.{LinkId}
use Rattle.mip_words.specs.declared.ids.NodeId.{NodeId}
use Rattle.mip_words.specs.declared.moment.Moment.{Moment}
use Rattle.mip_words.specs.declared.token.Token.{Token}
use Rattle.mip_words.specs.declared.why.Why.{Why}
use Rattle.mip_words.specs.Addresses.{address_bytes}
use Rattle.mip_words.proofs.Fields.{length-number_bytes}
use Rattle.mip_words.proofs.HexLaws.{length-hex_of}
use Rattle.mip_lines.specs.HexFields.{address_hex, hex_text}
use Rattle.mip_lines.proofs.HexFieldLaws.{unhex_exact-again, address_in-again, hex_field-again}
use Rattle.mip_lines.proofs.Numbers.{number-again}
use Rattle.mip_symbols.specs.Names.{is_name}
use Rattle.mip_symbols.specs.Places.{AreFew, NamesFound, name_at}
use Rattle.mip_symbols.specs.declared.declaration.Declaration.{Declaration}
use Rattle.mip_symbols.specs.declared.places.Sort.TheVariants as sorts
use Rattle.mip_symbols.specs.declared.reason.Reason.{Reason}
use Rattle.mip_symbols.specs.declared.reason.Reason.TheVariants as reasons
use Rattle.mip_rows.specs.Fields as kinds
use Rattle.mip_rows.specs.Fields.{or_reason, or_none, node_or_outsider, number, moment, address, token, bytes, place, link, node, outsider, who, some_link, some_address, some_token, some_u64, some_u16, shield, answer, why}
use Rattle.mip_rows.specs.Texts.{or_dash, token_hex, shield_mark, yes_or_no}
use Rattle.mip_rows.specs.Names.{node_name, link_name, outsider_name, who_name}
use Rattle.mip_rows.specs.Ranges.{IsNumber, IsMoment, IsAddress, IsToken, AreBytes, IsNode, IsLink, IsOutsider, IsWho, IsCause, IfPresent}
use Rattle.mip_rows.specs.Whys.{why_word, gone_whys, unsent_whys, dropped_whys, why_among, IsAmong}

number-read : (low high x : ℕ) → low ≤ x → x ≤ high → high < 2 ^ 64 → kinds.number low high (decimal x) ≡ Ok x
unfolding number
number-read low high x from to small = ap (or_reason reasons.Number) (number-again low high x from to small)

pub u8-again : (x : ℕ) → IsNumber 8 x → kinds.u8 (decimal x) ≡ Ok x
u8-again x is = number-read 0 255 x (omega arith) (omega arith) (omega arith)

pub u16-again : (x : ℕ) → IsNumber 16 x → kinds.u16 (decimal x) ≡ Ok x
u16-again x is = number-read 0 65535 x (omega arith) (omega arith) (omega arith)

pub u32-again : (x : ℕ) → IsNumber 32 x → kinds.u32 (decimal x) ≡ Ok x
u32-again x is = number-read 0 4294967295 x (omega arith) (omega arith) (omega arith)

pub u64-again : (x : ℕ) → IsNumber 64 x → kinds.u64 (decimal x) ≡ Ok x
u64-again x is = number-read 0 18446744073709551615 x (omega arith) (omega arith) (omega arith)

pub cause-again : (x : ℕ) → IsCause x → kinds.number 1 3 (decimal x) ≡ Ok x
cause-again x is = number-read 1 3 x is.0 is.1 (omega arith)

pub moment-again : (m : Moment) → IsMoment m → kinds.moment (decimal m.0) ≡ Ok m
unfolding moment
moment-again m is = ap (λ (r : Result ℕ Reason). r >>= (λ x. Ok (record { 0 = x }))) (u64-again m.0 is)

pub address-again : (a : Address) → IsAddress a → kinds.address (address_hex a) ≡ Ok a
unfolding address
address-again a is = ap (or_reason reasons.Address) (address_in-again a is)

pub token-again : (t : Token) → IsToken t → kinds.token (token_hex t) ≡ Ok t
unfolding token
token-again t is = ap (λ (o : Option (List ℕ)). or_reason reasons.Hex o >>= (λ x. Ok (record { 0 = x }))) (unhex_exact-again 8 t.0 is.0 is.1)

pub bytes-again : (b : List ℕ) → AreBytes b → kinds.bytes (hex_text b) ≡ Ok b
unfolding bytes
bytes-again b is = let small = is.0 in ap (or_reason reasons.Hex) (hex_field-again 4294967295 b (omega arith) is.1)

pub link-again : (ds : List Declaration) → NamesFound ds → (l : LinkId) → IsLink ds l → kinds.link ds (link_name (Some ds) l) ≡ Ok l
unfolding link place link_name
link-again ds found l is = ap (λ (o : Option ℕ). or_reason reasons.Name o >>= (λ p. Ok (record { 0 = p }))) (found.links l.0 is)

pub node-again : (ds : List Declaration) → NamesFound ds → (n : NodeId) → IsNode ds n → kinds.node sorts.Node ds (node_name (Some ds) n) ≡ Ok n
unfolding node place node_name
node-again ds found n is = ap (λ (o : Option ℕ). or_reason reasons.Name o >>= (λ p. Ok (record { 0 = p }))) (found.nodes n.0 is)

pub outsider-again : (ds : List Declaration) → NamesFound ds → (o : ℕ) → IsOutsider ds o → kinds.outsider ds (outsider_name (Some ds) o) ≡ Ok o
unfolding outsider place outsider_name
outsider-again ds found o is = ap (or_reason reasons.Name) (found.outsiders o is)

node_who : (ds : List Declaration) → AreFew ds → NamesFound ds → (w : ℕ) → IsNode ds (record { 0 = w }) → kinds.who ds (who_name (Some ds) w) ≡ Ok w
unfolding who place who_name node_name
node_who ds few found w is =
    let small : w < 32 = omega (arith, few.nodes) in
    ap (kinds.who ds) (cond-true _ _ _ (lt-ltb w 32 small)) ∙ ap (λ (o : Option ℕ). node_or_outsider (or_reason reasons.Name o) (kinds.outsider ds (name_at sorts.Node w ds))) (found.nodes w is)

-- no node has an outsider's name
no_node : (ds : List Declaration) → NamesFound ds → (o : ℕ) → IsOutsider ds o → kinds.place sorts.Node ds (outsider_name (Some ds) o) ≡ Err reasons.Name
unfolding place outsider_name
no_node ds found o is = ap (or_reason reasons.Name) (found.apart o is)

outsider_who : (ds : List Declaration) → NamesFound ds → (o : ℕ) → IsOutsider ds o → kinds.who ds (who_name (Some ds) (32 + o)) ≡ Ok (32 + o)
unfolding who who_name
outsider_who ds found o is =
    let back : 32 + o - 32 ≡ o = omega arith in
    ap (kinds.who ds) (cond-false _ _ _ (le-ltb (32 + o) 32 (omega arith)) ∙ ap (outsider_name (Some ds)) back)
    ∙ ap (λ (r : Result ℕ Reason). node_or_outsider r (kinds.outsider ds (outsider_name (Some ds) o))) (no_node ds found o is)
    ∙ ap (node_or_outsider (Err reasons.Name)) (outsider-again ds found o is)

pub who-again : (ds : List Declaration) → AreFew ds → NamesFound ds → (w : ℕ) → IsWho ds w → kinds.who ds (who_name (Some ds) w) ≡ Ok w
who-again ds few found w (inl is) = node_who ds few found w is
who-again ds few found w (inr is) = subst (λ (v : ℕ). kinds.who ds (who_name (Some ds) v) ≡ Ok v) (sym is.2) (outsider_who ds found is.0 is.1)

-- what is read from a field other than `-`
some-again : {A : Type 0} (read : List ℕ → Result A Reason) (f : List ℕ) (x : A) → (f ≡ codes "-" → ⊥) → read f ≡ Ok x → or_none read f ≡ Ok (Some x)
some-again read f x other is =
    cond-false _ _ _ (false_from_ne_true _ (λ test. other ((bytes_eq-Decides f (codes "-")).0 test)))
    ∙ ap (λ (r : Result _ Reason). r >>= (λ y. Ok (Some y))) is

long : (f : List ℕ) → 1 < length f → f ≡ codes "-" → ⊥
long f more e = let one = ap length e in omega arith

number_other : (x : ℕ) → x < 2 ^ 64 → decimal x ≡ codes "-" → ⊥
number_other x small e =
    let digits : AllDigits 10 (codes "-") = subst (AllDigits 10) e (decimal_is_IsNumeral x small).0.1 in
    let first : digit_value 45 < 10 = digits.0 in
    omega arith

address_other : (a : Address) → address_hex a ≡ codes "-" → ⊥
address_other a = long (address_hex a) (omega (arith, length-hex_of (address_bytes a), length-number_bytes 16 a.0))

token_other : (t : Token) → IsToken t → token_hex t ≡ codes "-" → ⊥
token_other t is = let size = is.0 in long (token_hex t) (omega (arith, length-hex_of t.0))

no_name : is_name (codes "-") ≡ true → ⊥
unfolding is_name
no_name e = absurd cc

link_other : (ds : List Declaration) → NamesFound ds → (l : LinkId) → IsLink ds l → link_name (Some ds) l ≡ codes "-" → ⊥
unfolding link_name
link_other ds found l is e = no_name (subst (λ (f : List ℕ). is_name f ≡ true) e (found.names sorts.Link l.0 is))

pub some_link-again : (ds : List Declaration) → NamesFound ds → (o : Option LinkId) → IfPresent (IsLink ds) o → kinds.some_link ds (or_dash (link_name (Some ds)) o) ≡ Ok o
unfolding some_link
some_link-again ds found None is = refl
some_link-again ds found (Some l) is = some-again (kinds.link ds) (link_name (Some ds) l) l (link_other ds found l is) (link-again ds found l is)

pub some_address-again : (o : Option Address) → IfPresent IsAddress o → kinds.some_address (or_dash address_hex o) ≡ Ok o
unfolding some_address
some_address-again None is = refl
some_address-again (Some a) is = some-again kinds.address (address_hex a) a (address_other a) (address-again a is)

pub some_token-again : (o : Option Token) → IfPresent IsToken o → kinds.some_token (or_dash token_hex o) ≡ Ok o
unfolding some_token
some_token-again None is = refl
some_token-again (Some t) is = some-again kinds.token (token_hex t) t (token_other t is) (token-again t is)

pub some_u64-again : (o : Option ℕ) → IfPresent (IsNumber 64) o → kinds.some_u64 (or_dash decimal o) ≡ Ok o
unfolding some_u64
some_u64-again None is = refl
some_u64-again (Some x) is = some-again kinds.u64 (decimal x) x (number_other x is) (u64-again x is)

pub some_u16-again : (o : Option ℕ) → IfPresent (IsNumber 16) o → kinds.some_u16 (or_dash decimal o) ≡ Ok o
unfolding some_u16
some_u16-again None is = refl
some_u16-again (Some x) is = some-again kinds.u16 (decimal x) x (number_other x (omega arith)) (u16-again x is)

pub shield-again : (b : Bool) → kinds.shield (shield_mark b) ≡ Ok b
unfolding shield
shield-again true = refl
shield-again false = refl

pub answer-again : (b : Bool) → kinds.answer (yes_or_no b) ≡ Ok b
unfolding answer
answer-again true = refl
answer-again false = refl

-- each of these
abbrev Each : (Why → Type 0) → List Why → Type 0
Each P [] = Unit {0}
Each P (first ∷ more) = P first × Each P more

one_of : (P : Why → Type 0) (some : List Why) (w : Why) → Each P some → IsAmong some w → P w
one_of P [] w each is = absurd is
one_of P (first ∷ more) w each (inl is) = subst P (sym is) each.0
one_of P (first ∷ more) w each (inr is) = one_of P more w each.1 is

-- each of these reasons is read from its word
abbrev pub ReadAgain : List Why → Type 0
ReadAgain some = Each (λ w. why_among some (why_word w) ≡ Some w) some

pub gone_again : ReadAgain gone_whys
unfolding gone_whys why_word
gone_again = (refl, (refl, (refl, (refl, tt))))

pub unsent_again : ReadAgain unsent_whys
unfolding unsent_whys why_word
unsent_again = (refl, (refl, (refl, (refl, tt))))

pub dropped_again : ReadAgain dropped_whys
unfolding dropped_whys why_word
dropped_again = (refl, (refl, (refl, (refl, (refl, (refl, (refl, (refl, (refl, (refl, (refl, (refl, (refl, (refl, (refl, (refl, (refl, (refl, (refl, (refl, (refl, (refl, (refl, (refl, (refl, (refl, (refl, (refl, (refl, (refl, tt))))))))))))))))))))))))))))))

pub why-again : (some : List Why) → ReadAgain some → (w : Why) → IsAmong some w → kinds.why some (why_word w) ≡ Ok w
unfolding why
why-again some each w is = ap (or_reason reasons.Name) (one_of (λ v. why_among some (why_word v) ≡ Some v) some w each is)
