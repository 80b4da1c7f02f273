-- Digits and bytes, both ways.
use Rattle.std.proofs.Common.{◌≡◌, ℕ, ◌+◌, ◌*◌, ◌/◌, ◌%◌, ◌<◌, List, [], ◌∷◌, ◌++◌, length, take, drop, get_or, set, Bool, true, false, ◌&&◌, if◌then◌else◌, refl, sym, ap, ◌∙◌, subst, arith}
use Rattle.std.proofs.lemmas.Bool.Decides.{nat_tests}
use Rattle.std.proofs.lemmas.List.{append_assoc, length-set, take_more_set, drop_more, take_more, flat_map_more}
use Rattle.std.specs.Prelude.{Option, Some, None, option_map}
use Rattle.std.specs.List.{list_all}
use Rattle.mip_words.specs.Numbers.{IsBytes}
use Rattle.mip_words.specs.Hex.{glyph, hex_pair, hex_of, is_hex_digit, digit_value, pair_value, paired, unhex}
use Rattle.mip_words.proofs.Fields.{IsBytes-more, IsBytes-rest}

-- a `Some` has one value
pub some_is : {A : Type 0} (x y : A) → Some x ≡ Some y → x ≡ y
some_is x y e = cc

-- every byte is written by two digits
pub length-hex_of : (bytes : List ℕ) → length (hex_of bytes) ≡ 2 * length bytes
length-hex_of [] = refl
length-hex_of (b ∷ bytes) = let e = length-hex_of bytes in omega arith

-- the digits of a byte give the byte
pub pair_value-hex_pair : (b : ℕ) → b < 256 → pair_value (glyph (b / 16)) (glyph (b % 16)) ≡ Some b
pair_value-hex_pair b small = grind (arith, nat_tests)

-- two digits that give a byte are its digits
pub pair_is : (high low b : ℕ) → pair_value high low ≡ Some b → (high ≡ glyph (b / 16)) × (low ≡ glyph (b % 16)) × (b < 256)
pair_is high low b e = (grind (arith, nat_tests), grind (arith, nat_tests), grind (arith, nat_tests))

-- one more byte of what a text of digits spells
pub unhex_more : (field : List ℕ) (i : ℕ) → 2 * i + 1 < length field → unhex (drop (2 * i) field) ≡ paired (pair_value (get_or field (2 * i) 0) (get_or field (2 * i + 1) 0)) (unhex (drop (2 * (i + 1)) field))
unhex_more field i inside =
    let first = drop_more field (2 * i) 0 (omega arith) in
    let second = drop_more field (2 * i + 1) 0 inside in
    let place : 2 * i + 1 + 1 ≡ 2 * (i + 1) = omega arith in
    ap unhex (first ∙ ap (λ (r : List ℕ). get_or field (2 * i) 0 ∷ r) second) ∙ ap (λ (k : ℕ). unhex (get_or field (2 * i) 0 ∷ get_or field (2 * i + 1) 0 ∷ drop k field)) place

pub filled_more : (field out : List ℕ) (i b : ℕ) → 2 * i + 1 < length field → i < length out → pair_value (get_or field (2 * i) 0) (get_or field (2 * i + 1) 0) ≡ Some b
    → unhex field ≡ option_map (λ ys. take i out ++ ys) (unhex (drop (2 * i) field))
    → unhex field ≡ option_map (λ ys. take (i + 1) (set out i b) ++ ys) (unhex (drop (2 * (i + 1)) field))
filled_more field out i b inside room e so_far =
    let step = unhex_more field i inside ∙ ap (λ (o : Option ℕ). paired o (unhex (drop (2 * (i + 1)) field))) e in
    so_far ∙ ap (option_map (λ ys. take i out ++ ys)) step ∙ moved (unhex (drop (2 * (i + 1)) field))
  where
    moved : (o : Option (List ℕ)) → option_map (λ ys. take i out ++ ys) (paired (Some b) o) ≡ option_map (λ ys. take (i + 1) (set out i b) ++ ys) o
    moved None = refl
    moved (Some ys) = ap (λ (l : List ℕ). Some l) (sym (append_assoc (take i out) (b ∷ []) ys) ∙ ap (λ (l : List ℕ). l ++ ys) (sym (take_more_set out i b room)))

-- a text with a byte that is no digit spells nothing
pub not_digits : (field : List ℕ) → list_all is_hex_digit field ≡ false → unhex field ≡ None
not_digits [] e = absurd cc
not_digits (high ∷ []) e = refl
not_digits (high ∷ low ∷ rest) e = by (is_hex_digit high) (is_hex_digit low) (list_all is_hex_digit rest) (unhex rest) (not_digits rest) e
  where
    by : (h l r : Bool) (o : Option (List ℕ)) → (r ≡ false → o ≡ None) → (h && (l && r)) ≡ false
        → paired (if h && l then Some (16 * digit_value high + digit_value low) else None) o ≡ None
    by false l r o more e = refl
    by true false r o more e = refl
    by true true r o more e = ap (paired (Some (16 * digit_value high + digit_value low))) (more e)

-- the digits of one more byte
pub hex_more : (out bytes : List ℕ) (i high low : ℕ) → i < length bytes → length out ≡ 2 * length bytes
    → high ∷ low ∷ [] ≡ hex_pair (get_or bytes i 0)
    → take (2 * i) out ≡ hex_of (take i bytes) → take (2 * (i + 1)) (set (set out (2 * i) high) (2 * i + 1) low) ≡ hex_of (take (i + 1) bytes)
hex_more out bytes i high low inside size pair so_far =
    let place : 2 * (i + 1) ≡ 2 * i + 1 + 1 = omega arith in
    let written : take (2 * (i + 1)) (set (set out (2 * i) high) (2 * i + 1) low) ≡ (take (2 * i) out ++ high ∷ []) ++ low ∷ [] =
    ap (λ (k : ℕ). take k (set (set out (2 * i) high) (2 * i + 1) low)) place
    ∙ take_more_set (set out (2 * i) high) (2 * i + 1) low (simp length-set (omega arith))
    ∙ ap (λ (l : List ℕ). l ++ low ∷ []) (take_more_set out (2 * i) high (omega arith)) in
    written ∙ append_assoc (take (2 * i) out) (high ∷ []) (low ∷ []) ∙ ap (λ (l : List ℕ). l ++ high ∷ low ∷ []) so_far
    ∙ ap (λ (l : List ℕ). hex_of (take i bytes) ++ l) pair
    ∙ flat_map_more hex_pair [] (take i bytes) (get_or bytes i 0)
    ∙ ap hex_of (sym (take_more bytes i 0 inside))

-- what a text of digits spells has these digits, and is bytes
pub record IsSpelledBy (bytes field : List ℕ) : Type 0 where
  pub digits : field ≡ hex_of bytes
  pub are_bytes : IsBytes bytes

pub unhex-spelled : (field bytes : List ℕ) → unhex field ≡ Some bytes → IsSpelledBy bytes field
unhex-spelled [] bytes e = subst (λ (b : List ℕ). IsSpelledBy b []) (some_is [] bytes e) (record { digits = refl; are_bytes = λ i. omega arith })
unhex-spelled (high ∷ []) bytes e = absurd cc
unhex-spelled (high ∷ low ∷ rest) bytes e = by (pair_value high low) (unhex rest) refl (λ xs. unhex-spelled rest xs) e
  where
    by : (o : Option ℕ) (p : Option (List ℕ)) → pair_value high low ≡ o → ((xs : List ℕ) → p ≡ Some xs → IsSpelledBy xs rest) → paired o p ≡ Some bytes → IsSpelledBy bytes (high ∷ low ∷ rest)
    by None p pair more e = absurd cc
    by (Some b) None pair more e = absurd cc
    by (Some b) (Some xs) pair more e =
        let is = pair_is high low b pair in
        let after = more xs refl in
        subst (λ (l : List ℕ). IsSpelledBy l (high ∷ low ∷ rest)) (some_is (b ∷ xs) bytes e)
        (record { digits = ap (λ (c : ℕ). c ∷ low ∷ rest) is.0 ∙ ap (λ (c : ℕ). glyph (b / 16) ∷ c ∷ rest) is.1 ∙ ap (λ (l : List ℕ). glyph (b / 16) ∷ glyph (b % 16) ∷ l) after.digits; are_bytes = IsBytes-more b xs is.2 after.are_bytes })

-- and its digits spell the bytes
pub unhex-again : (bytes : List ℕ) → IsBytes bytes → unhex (hex_of bytes) ≡ Some bytes
unhex-again [] are = refl
unhex-again (b ∷ bytes) are =
    ap (λ (o : Option ℕ). paired o (unhex (hex_of bytes))) (pair_value-hex_pair b (are 0)) ∙ ap (paired (Some b)) (unhex-again bytes (IsBytes-rest b bytes are))
