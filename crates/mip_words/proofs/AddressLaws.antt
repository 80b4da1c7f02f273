-- An address and its digits, both ways.
use Rattle.std.proofs.Common.{◌≡◌, ℕ, ◌/◌, ◌%◌, ◌<◌, ◌^◌, List, [], ◌∷◌, ◌++◌, length, drop, replicate, refl, sym, ap, ◌∙◌, arith, Bool, true, false}
use Rattle.std.specs.Prelude.{Option, Some, None, Result, Ok, Err, ◌==◌, if◌then◌else◌, IfOk}
use Rattle.std.proofs.lemmas.Bool.{cond-true, eqb-true, eq-eqb}
use Rattle.std.proofs.lemmas.List.{take_all, append-nil}
use lib.Seq.{take_at, drop_at}
use borrow.Rule.Slice.PartMut.{put_mid}
use Rattle.mip_words.specs.Numbers.{number_at, number_bytes}
use Rattle.mip_words.specs.Hex.{hex_of, unhex}
use Rattle.mip_words.specs.Addresses.{address_at, address_bytes, address_if, address_read}
use Rattle.mip_words.specs.declared.address.Address.{Address}
use Rattle.mip_words.specs.declared.address.NotAddress.{NotAddress}
use Rattle.mip_words.proofs.Fields.{number_bytes-number_at, number_at-number_bytes, length-number_bytes, IsBytes-number_bytes}
use Rattle.mip_words.proofs.HexLaws.{unhex-spelled, unhex-again, length-hex_of}

-- what is read has these digits
pub read_is_spelled : (text : List ℕ) (a : Address) → address_read text ≡ Ok a → text ≡ hex_of (address_bytes a)
unfolding address_read
read_is_spelled text a e = by (length text == 32) refl (unhex text) refl e
  where
    by : (b : Bool) → (length text == 32) ≡ b → (o : Option (List ℕ)) → unhex text ≡ o → address_if (if b then o else None) ≡ Ok a → text ≡ hex_of (address_bytes a)
    by false test o is e = absurd cc
    by true test None is e = absurd cc
    by true test (Some bytes) is e =
        let spelled = unhex-spelled text bytes is in
        let size : length bytes ≡ 16 = omega (arith, length-hex_of bytes, ap length spelled.digits, eqb-true (length text) 32 test) in
        let whole : number_bytes 16 (number_at 16 0 bytes) ≡ bytes = number_bytes-number_at 16 0 bytes spelled.are_bytes (omega arith) ∙ take_all 16 bytes (omega arith) in
        let value : address_at 0 bytes ≡ a = cc in
        spelled.digits ∙ ap hex_of (sym whole) ∙ ap (λ (x : Address). hex_of (address_bytes x)) value

-- what has these digits is read
pub spelled_is_read : (a : Address) → a.0 < 2 ^ 128 → address_read (hex_of (address_bytes a)) ≡ Ok a
unfolding address_read
spelled_is_read a small =
    let bytes = address_bytes a in
    let size : length (hex_of bytes) ≡ 32 = omega (arith, length-hex_of bytes, length-number_bytes 16 a.0) in
    let test : (length (hex_of bytes) == 32) ≡ true = eq-eqb (length (hex_of bytes)) 32 size in
    let value : number_at 16 0 bytes ≡ a.0 = ap (number_at 16 0) (sym (append-nil bytes)) ∙ number_at-number_bytes 16 a.0 [] small in
    ap address_if (cond-true (length (hex_of bytes) == 32) (unhex (hex_of bytes)) None test ∙ unhex-again bytes (IsBytes-number_bytes 16 a.0))
    ∙ ap (λ (n : ℕ). Ok (record { 0 = n })) value

pub found_if : (text : List ℕ) (r : Result Address NotAddress) → r ≡ address_read text → IfOk r (λ a. text ≡ hex_of (address_bytes a))
found_if text (Ok a) e = read_is_spelled text a (sym e)
found_if text (Err w) e = tt

-- eight bytes behind eight
pub put_halves : (a b : List ℕ) → length a ≡ 8 → put_mid 8 8 (a ++ replicate 8 0) b ≡ a ++ b
put_halves a b long =
    ap (λ (l : List ℕ). l ++ (b ++ drop 8 (drop 8 (a ++ replicate 8 0)))) (take_at a (replicate 8 0) 8 long)
    ∙ ap (λ (l : List ℕ). a ++ (b ++ drop 8 l)) (drop_at a (replicate 8 0) 8 long)
    ∙ ap (λ (l : List ℕ). a ++ l) (append-nil b)

cons_both : {a b : ℕ} {l r : List ℕ} → a ≡ b → l ≡ r → (a ∷ l) ≡ (b ∷ r)
cons_both first rest = cc

-- sixteen bytes are those of a number's high half and of its low half
pub halves : (x : ℕ) → number_bytes 8 (x / 18446744073709551616) ++ number_bytes 8 (x % 18446744073709551616) ≡ number_bytes 16 x
unfolding number_bytes
halves x =
    cons_both (omega arith) (cons_both (omega arith) (cons_both (omega arith) (cons_both (omega arith) (cons_both (omega arith) (cons_both (omega arith) (cons_both (omega arith) (cons_both (omega arith) (cons_both (omega arith) (cons_both (omega arith) (cons_both (omega arith) (cons_both (omega arith) (cons_both (omega arith) (cons_both (omega arith) (cons_both (omega arith) (cons_both (omega arith) refl)))))))))))))))
