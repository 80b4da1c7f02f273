-- What is known of fields of hexadecimal digits: a field that is read is spelled so, and a field that is spelled so
-- is read.
use Rattle.std.proofs.Common.{◌≡◌, ℕ, ◌*◌, ◌/◌, ◌^◌, ◌<◌, ◌≤◌, List, [], ◌∷◌, length, false, refl, sym, ap, ◌∙◌, subst, arith, nat_lt}
use Rattle.std.specs.Prelude.{Option, Some, None, option_map, Result, Ok, Err, codes, ◌==◌, ◌||◌}
use Rattle.std.specs.Result.{result_ok}
use Rattle.std.specs.Str.{bytes_eq}
use Rattle.std.proofs.lemmas.Bool.{cond_both, cond-true, cond-false, eqb-true, eq-eqb, ne_eqb, eqb-false, false_from_ne_true, or_parts, or_from, ltb-false, le-ltb}
use Rattle.std.proofs.lemmas.List.{take_all, append-nil}
use Rattle.std.proofs.lemmas.Slice.Eq.{bytes_eq-Decides}
use Rattle.mip_words.specs.Numbers.{IsBytes, number_at, number_bytes}
use Rattle.mip_words.specs.Hex.{hex_of, unhex_exact}
use Rattle.mip_words.specs.Addresses.{address_read}
use Rattle.mip_words.specs.declared.address.Address.{Address}
use Rattle.mip_words.specs.declared.address.NotAddress.{NotAddress}
use Rattle.mip_words.proofs.AddressLaws.{read_is_spelled, spelled_is_read}
use Rattle.mip_words.proofs.Fields.{number_bytes-number_at, number_at-number_bytes, number_at-lt, length-number_bytes, IsBytes-number_bytes}
use Rattle.mip_words.proofs.HexLaws.{some_is, unhex-spelled, unhex-again, length-hex_of}
use Rattle.mip_lines.specs.HexFields.{hex_number, number_hex, address_in, address_hex, hex_field, hex_text}

-- n bytes, with their digits
pub record IsBytesOf (n : ℕ) (bytes field : List ℕ) : Type 0 where
  pub digits : field ≡ hex_of bytes
  pub size : length bytes ≡ n
  pub are_bytes : IsBytes bytes

pub unhex_exact-spelled : (n : ℕ) (field bytes : List ℕ) → unhex_exact n field ≡ Some bytes → IsBytesOf n bytes field
unhex_exact-spelled n field bytes =
    cond_both (length field == 2 * n) _ _ (λ (o : Option (List ℕ)). o ≡ Some bytes → IsBytesOf n bytes field)
    (λ size e.
    let s = unhex-spelled field bytes e in
    let long : length field ≡ 2 * n = eqb-true (length field) (2 * n) size in
    record { digits = s.digits; size = omega (arith, length-hex_of bytes, ap length s.digits); are_bytes = s.are_bytes })
    (λ _ e. absurd cc)

pub unhex_exact-again : (n : ℕ) (bytes : List ℕ) → length bytes ≡ n → IsBytes bytes → unhex_exact n (hex_of bytes) ≡ Some bytes
unhex_exact-again n bytes size are =
    let long : length (hex_of bytes) ≡ 2 * n = omega (arith, length-hex_of bytes) in
    cond-true _ _ _ (eq-eqb (length (hex_of bytes)) (2 * n) long) ∙ unhex-again bytes are

-- a number that is read has these digits, and is one of n bytes
pub record IsNumberOf (n x : ℕ) (field : List ℕ) : Type 0 where
  pub digits : field ≡ number_hex n x
  pub small : x < 256 ^ n

pub hex_number-spelled : (n : ℕ) (field : List ℕ) (x : ℕ) → hex_number n field ≡ Some x → IsNumberOf n x field
unfolding hex_number
hex_number-spelled n field x = by (unhex_exact n field) refl
  where
    by : (o : Option (List ℕ)) → unhex_exact n field ≡ o → option_map (λ bytes. number_at n 0 bytes) o ≡ Some x → IsNumberOf n x field
    by None is e = absurd cc
    by (Some bytes) is e =
        let s = unhex_exact-spelled n field bytes is in
        let size : length bytes ≡ n = s.size in
        let same : number_at n 0 bytes ≡ x = some_is _ _ e in
        let whole : number_bytes n (number_at n 0 bytes) ≡ bytes = number_bytes-number_at n 0 bytes s.are_bytes (omega arith) ∙ take_all n bytes (omega arith) in
        subst (λ (y : ℕ). IsNumberOf n y field) same
        (record { digits = s.digits ∙ ap hex_of (sym whole); small = number_at-lt n 0 bytes s.are_bytes })

pub hex_number-again : (n x : ℕ) → x < 256 ^ n → hex_number n (number_hex n x) ≡ Some x
unfolding hex_number
hex_number-again n x small =
    let value : number_at n 0 (number_bytes n x) ≡ x = ap (number_at n 0) (sym (append-nil (number_bytes n x))) ∙ number_at-number_bytes n x [] small in
    ap (option_map (λ bytes. number_at n 0 bytes)) (unhex_exact-again n (number_bytes n x) (length-number_bytes n x) (IsBytes-number_bytes n x)) ∙ ap (λ (y : ℕ). Some y) value

-- an address that is read has these digits
pub address_in-spelled : (field : List ℕ) (a : Address) → address_in field ≡ Some a → field ≡ address_hex a
unfolding address_in
address_in-spelled field a = by (address_read field) refl
  where
    by : (r : Result Address NotAddress) → address_read field ≡ r → result_ok r ≡ Some a → field ≡ address_hex a
    by (Err w) is e = absurd cc
    by (Ok b) is e = read_is_spelled field a (is ∙ ap (λ (x : Address). Ok x) (some_is b a e))

pub address_in-again : (a : Address) → a.0 < 2 ^ 128 → address_in (address_hex a) ≡ Some a
unfolding address_in
address_in-again a small = ap (λ (r : Result Address NotAddress). result_ok r) (spelled_is_read a small)

-- bytes that are read have this field, are so many at most, and are bytes
pub record IsHexField (most : ℕ) (bytes field : List ℕ) : Type 0 where
  pub text : field ≡ hex_text bytes
  pub size : length bytes ≤ most
  pub are_bytes : IsBytes bytes

text_is : (bytes field : List ℕ) → 0 < length field → field ≡ hex_of bytes → field ≡ hex_text bytes
unfolding hex_text
text_is [] field long e = absurd (omega (arith, ap length e))
text_is (b ∷ bytes) field long e = e

pub hex_field-spelled : (most : ℕ) (field bytes : List ℕ) → hex_field most field ≡ Some bytes → IsHexField most bytes field
unfolding hex_field hex_text
hex_field-spelled most field bytes =
    let P : Option (List ℕ) → Type 0 = λ o. o ≡ Some bytes → IsHexField most bytes field in
    cond_both (bytes_eq field (codes "-")) _ _ P
    (λ test e. subst (λ (b : List ℕ). IsHexField most b field) (some_is [] bytes e)
    (record { text = (bytes_eq-Decides field (codes "-")).0 test; size = omega arith; are_bytes = λ i. omega arith }))
    (λ _.
    cond_both ((length field == 0) || nat_lt most (length field / 2)) _ _ P
    (λ _ e. absurd cc)
    (λ test e.
    let p = or_parts (length field == 0) (nat_lt most (length field / 2)) test in
    let s = unhex_exact-spelled (length field / 2) field bytes e in
    let size : length bytes ≡ length field / 2 = s.size in
    let low : length field / 2 ≤ most = ltb-false most (length field / 2) p.1 in
    record { text = text_is bytes field (some (length field) p.0) s.digits; size = omega arith; are_bytes = s.are_bytes }))
  where
    some : (n : ℕ) → (n == 0) ≡ false → 0 < n
    some n e = grind (arith, eqb-false)

pub hex_field-again : (most : ℕ) (bytes : List ℕ) → length bytes ≤ most → IsBytes bytes → hex_field most (hex_text bytes) ≡ Some bytes
unfolding hex_field hex_text
hex_field-again most [] size are = refl
hex_field-again most (b ∷ bytes) size are =
    let all : List ℕ = b ∷ bytes in
    let long : length (hex_of all) ≡ 2 * length all = length-hex_of all in
    let half : length (hex_of all) / 2 ≡ length all = omega arith in
    cond-false (bytes_eq (hex_of all) (codes "-")) _ _ (false_from_ne_true _ (λ test. let e = ap length ((bytes_eq-Decides (hex_of all) (codes "-")).0 test) in omega arith))
    ∙ cond-false ((length (hex_of all) == 0) || nat_lt most (length (hex_of all) / 2)) _ _ (or_from _ _ (ne_eqb (length (hex_of all)) 0 (λ e. omega arith)) (le-ltb most (length (hex_of all) / 2) (omega arith)))
    ∙ unhex_exact-again (length (hex_of all) / 2) all (sym half) are
