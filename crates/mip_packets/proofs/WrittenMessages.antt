-- A message that was written is read, if at all, with its type; a test with its index and its token.
use Rattle.std.proofs.Common.{◌≡◌, ℕ, ◌+◌, ◌*◌, ◌<◌, ◌≤◌, List, ◌++◌, length, take, drop, refl, sym, subst, Bool, inl, inr, arith, ltb}
use Rattle.std.proofs.lemmas.Bool.{cond_both, cases_eq, ltb-false}
use Rattle.std.proofs.lemmas.List.{take_at}
use Rattle.std.specs.Prelude.{Result, Ok, slice_index, not, ◌||◌, ◌==◌}
use Rattle.mip_words.specs.Numbers.{number_at, number_bytes}
use Rattle.mip_words.specs.Addresses.{address_at}
use Rattle.mip_words.specs.declared.address.Address.{Address}
use Rattle.mip_words.proofs.Fields.{number_at-number_bytes}
use Rattle.mip_words.proofs.StepLaws.{bind_ok, ok_is}
use Rattle.mip_ipv6.specs.Sum.{is_right_sum}
use Rattle.mip_mobhdr.specs.OptionValues.{Values}
use Rattle.mip_mobhdr.specs.OptionWriting.{canonical}
use Rattle.mip_mobhdr.specs.declared.fault.Fault.{Fault}
use Rattle.mip_mobhdr.specs.Said.{Said}
use Rattle.mip_mobhdr.specs.Said.Said.{Refresh, HomeInit, CareofInit, HomeTest, CareofTest, Update, Acknowledgement, Error}
use Rattle.mip_mobhdr.specs.Reading.{least_of, has_bit, type_in, options_in, refresh_of, home_init_of, careof_init_of, home_test_of, careof_test_of, update_of, acknowledgement_of, error_of, fields_of, message_of}
use Rattle.mip_mobhdr.specs.Spelling.{type_of, field_bytes, rest_bytes, unsummed, message_bytes}

-- the index and the token of a test, as they stand in its body
abbrev pub IsTestIn : Said → List ℕ → Type 0
IsTestIn (HomeTest i c t o) body = (number_at 2 6 body ≡ i) × (take 8 (drop 16 body) ≡ t)
IsTestIn (CareofTest i c t o) body = (number_at 2 6 body ≡ i) × (take 8 (drop 16 body) ≡ t)
IsTestIn _ body = Unit {0}

-- a message that was read of this type
pub record Reads (type : ℕ) (body : List ℕ) (m : Said) : Type 0 where
  pub type_is : type_of m ≡ type
  pub fields : IsTestIn m body

refresh_reads : (body : List ℕ) (m : Said) → refresh_of body ≡ Ok m → Reads 0 body m
unfolding refresh_of
refresh_reads body m e =
    let b = bind_ok (options_in 8 body) (λ o. Ok (Refresh o)) m e in
    subst (Reads 0 body) (ok_is _ m b.2) (record { type_is = refl; fields = tt })

home_init_reads : (body : List ℕ) (m : Said) → home_init_of body ≡ Ok m → Reads 1 body m
unfolding home_init_of
home_init_reads body m e =
    let b = bind_ok (options_in 16 body) (λ o. Ok (HomeInit (number_at 8 8 body) o)) m e in
    subst (Reads 1 body) (ok_is _ m b.2) (record { type_is = refl; fields = tt })

careof_init_reads : (body : List ℕ) (m : Said) → careof_init_of body ≡ Ok m → Reads 2 body m
unfolding careof_init_of
careof_init_reads body m e =
    let b = bind_ok (options_in 16 body) (λ o. Ok (CareofInit (number_at 8 8 body) o)) m e in
    subst (Reads 2 body) (ok_is _ m b.2) (record { type_is = refl; fields = tt })

home_test_reads : (body : List ℕ) (m : Said) → home_test_of body ≡ Ok m → Reads 3 body m
unfolding home_test_of
home_test_reads body m e =
    let b = bind_ok (options_in 24 body) (λ o. Ok (HomeTest (number_at 2 6 body) (number_at 8 8 body) (take 8 (drop 16 body)) o)) m e in
    subst (Reads 3 body) (ok_is _ m b.2) (record { type_is = refl; fields = (refl, refl) })

careof_test_reads : (body : List ℕ) (m : Said) → careof_test_of body ≡ Ok m → Reads 4 body m
unfolding careof_test_of
careof_test_reads body m e =
    let b = bind_ok (options_in 24 body) (λ o. Ok (CareofTest (number_at 2 6 body) (number_at 8 8 body) (take 8 (drop 16 body)) o)) m e in
    subst (Reads 4 body) (ok_is _ m b.2) (record { type_is = refl; fields = (refl, refl) })

update_reads : (body : List ℕ) (m : Said) → update_of body ≡ Ok m → Reads 5 body m
unfolding update_of
update_reads body m e =
    let f : ℕ → Bool = λ worth. has_bit worth (slice_index body 8) in
    let b = bind_ok (options_in 12 body) (λ o. Ok (Update (number_at 2 6 body) (f 128) (f 64) (f 32) (f 16) (number_at 2 10 body) o)) m e in
    subst (Reads 5 body) (ok_is _ m b.2) (record { type_is = refl; fields = tt })

acknowledgement_reads : (body : List ℕ) (m : Said) → acknowledgement_of body ≡ Ok m → Reads 6 body m
unfolding acknowledgement_of
acknowledgement_reads body m e =
    let b = bind_ok (options_in 12 body) (λ o. Ok (Acknowledgement (slice_index body 6) (has_bit 128 (slice_index body 7)) (number_at 2 8 body) (number_at 2 10 body) o)) m e in
    subst (Reads 6 body) (ok_is _ m b.2) (record { type_is = refl; fields = tt })

error_reads : (body : List ℕ) (m : Said) → error_of body ≡ Ok m → Reads 7 body m
unfolding error_of
error_reads body m e =
    let b = bind_ok (options_in 24 body) (λ o. Ok (Error (slice_index body 6) (address_at 8 body) o)) m e in
    subst (Reads 7 body) (ok_is _ m b.2) (record { type_is = refl; fields = tt })

fields_read : (type : ℕ) (body : List ℕ) (m : Said) → type ≤ 7 → fields_of type body ≡ Ok m → Reads type body m
unfolding fields_of
fields_read type body m small =
    let P : ℕ → Type 0 = λ t. fields_of t body ≡ Ok m → Reads t body m in
    elim (cases_eq type 0) as (λ _. P type) [
      | inl e ↦ subst P (sym e) (refresh_reads body m)
      | inr n0 ↦ elim (cases_eq type 1) as (λ _. P type) [
        | inl e ↦ subst P (sym e) (home_init_reads body m)
        | inr n1 ↦ elim (cases_eq type 2) as (λ _. P type) [
          | inl e ↦ subst P (sym e) (careof_init_reads body m)
          | inr n2 ↦ elim (cases_eq type 3) as (λ _. P type) [
            | inl e ↦ subst P (sym e) (home_test_reads body m)
            | inr n3 ↦ elim (cases_eq type 4) as (λ _. P type) [
              | inl e ↦ subst P (sym e) (careof_test_reads body m)
              | inr n4 ↦ elim (cases_eq type 5) as (λ _. P type) [
                | inl e ↦ subst P (sym e) (update_reads body m)
                | inr n5 ↦ elim (cases_eq type 6) as (λ _. P type) [
                  | inl e ↦ subst P (sym e) (acknowledgement_reads body m)
                  | inr n6 ↦ let e : type ≡ 7 = omega arith in subst P (sym e) (error_reads body m)
                ]
              ]
            ]
          ]
        ]
      ]
    ]

-- the type is that of byte 2
type_read : (source destination : Address) (type : ℕ) (body : List ℕ) → type_in source destination body ≡ Ok type → (slice_index body 2 ≡ type) × (type ≤ 7)
unfolding type_in
type_read source destination type body =
    let n = length body in
    let t = slice_index body 2 in
    let P : Result ℕ Fault → Type 0 = λ r. r ≡ Ok type → (t ≡ type) × (type ≤ 7) in
    cond_both (ltb n 8 || not (n == 8 + 8 * slice_index body 1)) _ _ P (λ wrong e. absurd cc) (λ size.
    cond_both (not (is_right_sum source destination 135 body)) _ _ P (λ wrong e. absurd cc) (λ sum.
    cond_both (ltb 7 t) _ _ P (λ wrong e. absurd cc) (λ known.
    cond_both (not (slice_index body 0 == 59)) _ _ P (λ wrong e. absurd cc) (λ proto.
    cond_both (ltb (slice_index body 1) (least_of t)) _ _ P (λ wrong e. absurd cc) (λ least e.
    (ok_is t type e, omega (arith, ltb-false 7 t known, ok_is t type e)))))))

-- a message that was read, whatever stands in its body
pub message_reads : (source destination : Address) (body : List ℕ) (m : Said) → message_of source destination body ≡ Ok m → Reads (slice_index body 2) body m
unfolding message_of
message_reads source destination body m e =
    let b = bind_ok (type_in source destination body) (λ t. fields_of t body) m e in
    let c = type_read source destination b.0 body b.1 in
    subst (λ (t : ℕ). Reads t body m) (sym c.0) (fields_read b.0 body m c.1 b.2)

-- what stands there where a message was written
pub type_written : (source destination : Address) (m : Said) → slice_index (message_bytes source destination m) 2 ≡ type_of m
unfolding message_bytes unsummed
type_written source destination m = refl

pub home_index_written : (source destination : Address) (i c : ℕ) (t : List ℕ) (o : Values) → i < 65536 → number_at 2 6 (message_bytes source destination (HomeTest i c t o)) ≡ i
unfolding message_bytes unsummed rest_bytes number_bytes number_at
home_index_written source destination i c t o fits =
    number_at-number_bytes 2 i (number_bytes 8 c ++ (t ++ canonical (6 + length (field_bytes (HomeTest i c t o))) o)) fits

pub careof_index_written : (source destination : Address) (i c : ℕ) (t : List ℕ) (o : Values) → i < 65536 → number_at 2 6 (message_bytes source destination (CareofTest i c t o)) ≡ i
unfolding message_bytes unsummed rest_bytes number_bytes number_at
careof_index_written source destination i c t o fits =
    number_at-number_bytes 2 i (number_bytes 8 c ++ (t ++ canonical (6 + length (field_bytes (CareofTest i c t o))) o)) fits

pub home_token_written : (source destination : Address) (i c : ℕ) (t : List ℕ) (o : Values) → length t ≡ 8 → take 8 (drop 16 (message_bytes source destination (HomeTest i c t o))) ≡ t
unfolding message_bytes unsummed rest_bytes number_bytes
home_token_written source destination i c t o long = take_at t (canonical (6 + length (field_bytes (HomeTest i c t o))) o) 8 long

pub careof_token_written : (source destination : Address) (i c : ℕ) (t : List ℕ) (o : Values) → length t ≡ 8 → take 8 (drop 16 (message_bytes source destination (CareofTest i c t o))) ≡ t
unfolding message_bytes unsummed rest_bytes number_bytes
careof_token_written source destination i c t o long = take_at t (canonical (6 + length (field_bytes (CareofTest i c t o))) o) 8 long
