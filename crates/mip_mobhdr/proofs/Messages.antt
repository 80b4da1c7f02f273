-- What is read is spelled so, and what is spelled so is read.
use Rattle.std.proofs.Common.{◌≡◌, ℕ, ◌+◌, ◌*◌, ◌≤◌, List, length, take, drop, refl, sym, ap, subst, ◌∙◌, Bool, true, not, ◌||◌, eqb, ltb, arith, inl, inr}
use Rattle.std.proofs.lemmas.Bool.{cond_both, cond-false, eqb-true, eq-eqb, ltb-false, le-ltb, not-false, not_from_true, or_parts, or_from, cases_eq}
use Rattle.std.specs.Prelude.{Result, Ok, Err, slice_index}
use Rattle.mip_words.specs.Numbers.{IsBytes, number_at}
use Rattle.mip_words.specs.Addresses.{address_at}
use Rattle.mip_words.specs.declared.address.Address.{Address}
use Rattle.mip_words.proofs.StepLaws.{bind_ok, ok_is, done}
use Rattle.mip_ipv6.specs.Sum.{is_right_sum}
use Rattle.mip_mobhdr.specs.OptionValues.{Values}
use Rattle.mip_mobhdr.specs.OptionReading.{options_of}
use Rattle.mip_mobhdr.specs.OptionSpelling.{IsSpelled}
use Rattle.mip_mobhdr.proofs.OptionTaking.{options_spelled}
use Rattle.mip_mobhdr.proofs.OptionsAgain.{options_read}
use Rattle.mip_mobhdr.specs.declared.fault.Fault.{Fault}
use Rattle.mip_mobhdr.specs.Said.{Said}
use Rattle.mip_mobhdr.specs.Said.Said.{Refresh, HomeInit, CareofInit, HomeTest, CareofTest, Update, Acknowledgement, Error}
use Rattle.mip_mobhdr.specs.Reading.{least_of, has_bit, type_in, or_fault, options_in, refresh_of, home_init_of, careof_init_of, home_test_of, careof_test_of, update_of, acknowledgement_of, error_of, fields_of, message_of}
use Rattle.mip_mobhdr.specs.Spelling.{type_of, IsFields, IsMessage}

-- fields that were read for a type
record Fields (type : ℕ) (body : List ℕ) (m : Said) : Type 0 where
  type_is : type_of m ≡ type
  fields : IsFields m body

or_fault_ok : (r : Result Values ℕ) (v : Values) → or_fault r ≡ Ok v → r ≡ Ok v
or_fault_ok (Ok x) v e = ap done (ok_is x v e)
or_fault_ok (Err place) v e = absurd cc

options_taken : (start : ℕ) (body : List ℕ) (v : Values) → IsBytes body → options_in start body ≡ Ok v → IsSpelled v (drop start body)
options_taken start body v are e = options_spelled start body v are (or_fault_ok (options_of start body) v e)

refresh_takes : (body : List ℕ) (m : Said) → IsBytes body → refresh_of body ≡ Ok m → Fields 0 body m
unfolding refresh_of
refresh_takes body m are e =
    let b = bind_ok (options_in 8 body) (λ o. Ok (Refresh o)) m e in
    subst (Fields 0 body) (ok_is _ m b.2) (record { type_is = refl; fields = options_taken 8 body b.0 are b.1 })

home_init_takes : (body : List ℕ) (m : Said) → IsBytes body → home_init_of body ≡ Ok m → Fields 1 body m
unfolding home_init_of
home_init_takes body m are e =
    let b = bind_ok (options_in 16 body) (λ o. Ok (HomeInit (number_at 8 8 body) o)) m e in
    subst (Fields 1 body) (ok_is _ m b.2) (record { type_is = refl; fields = (refl, options_taken 16 body b.0 are b.1) })

careof_init_takes : (body : List ℕ) (m : Said) → IsBytes body → careof_init_of body ≡ Ok m → Fields 2 body m
unfolding careof_init_of
careof_init_takes body m are e =
    let b = bind_ok (options_in 16 body) (λ o. Ok (CareofInit (number_at 8 8 body) o)) m e in
    subst (Fields 2 body) (ok_is _ m b.2) (record { type_is = refl; fields = (refl, options_taken 16 body b.0 are b.1) })

home_test_takes : (body : List ℕ) (m : Said) → IsBytes body → home_test_of body ≡ Ok m → Fields 3 body m
unfolding home_test_of
home_test_takes body m are e =
    let b = bind_ok (options_in 24 body) (λ o. Ok (HomeTest (number_at 2 6 body) (number_at 8 8 body) (take 8 (drop 16 body)) o)) m e in
    subst (Fields 3 body) (ok_is _ m b.2) (record { type_is = refl; fields = (refl, refl, refl, options_taken 24 body b.0 are b.1) })

careof_test_takes : (body : List ℕ) (m : Said) → IsBytes body → careof_test_of body ≡ Ok m → Fields 4 body m
unfolding careof_test_of
careof_test_takes body m are e =
    let b = bind_ok (options_in 24 body) (λ o. Ok (CareofTest (number_at 2 6 body) (number_at 8 8 body) (take 8 (drop 16 body)) o)) m e in
    subst (Fields 4 body) (ok_is _ m b.2) (record { type_is = refl; fields = (refl, refl, refl, options_taken 24 body b.0 are b.1) })

update_takes : (body : List ℕ) (m : Said) → IsBytes body → update_of body ≡ Ok m → Fields 5 body m
unfolding update_of
update_takes body m are e =
    let f : ℕ → Bool = λ worth. has_bit worth (slice_index body 8) in
    let b = bind_ok (options_in 12 body) (λ o. Ok (Update (number_at 2 6 body) (f 128) (f 64) (f 32) (f 16) (number_at 2 10 body) o)) m e in
    subst (Fields 5 body) (ok_is _ m b.2) (record { type_is = refl; fields = (refl, refl, refl, refl, refl, refl, options_taken 12 body b.0 are b.1) })

acknowledgement_takes : (body : List ℕ) (m : Said) → IsBytes body → acknowledgement_of body ≡ Ok m → Fields 6 body m
unfolding acknowledgement_of
acknowledgement_takes body m are e =
    let b = bind_ok (options_in 12 body) (λ o. Ok (Acknowledgement (slice_index body 6) (has_bit 128 (slice_index body 7)) (number_at 2 8 body) (number_at 2 10 body) o)) m e in
    subst (Fields 6 body) (ok_is _ m b.2) (record { type_is = refl; fields = (refl, refl, refl, refl, options_taken 12 body b.0 are b.1) })

error_takes : (body : List ℕ) (m : Said) → IsBytes body → error_of body ≡ Ok m → Fields 7 body m
unfolding error_of
error_takes body m are e =
    let b = bind_ok (options_in 24 body) (λ o. Ok (Error (slice_index body 6) (address_at 8 body) o)) m e in
    subst (Fields 7 body) (ok_is _ m b.2) (record { type_is = refl; fields = (refl, refl, options_taken 24 body b.0 are b.1) })

fields_takes : (type : ℕ) (body : List ℕ) (m : Said) → IsBytes body → type ≤ 7 → fields_of type body ≡ Ok m → Fields type body m
unfolding fields_of
fields_takes type body m are small =
    let P : ℕ → Type 0 = λ t. fields_of t body ≡ Ok m → Fields t body m in
    elim (cases_eq type 0) as (λ _. P type) [
      | inl e ↦ subst P (sym e) (refresh_takes body m are)
      | inr n0 ↦ elim (cases_eq type 1) as (λ _. P type) [
        | inl e ↦ subst P (sym e) (home_init_takes body m are)
        | inr n1 ↦ elim (cases_eq type 2) as (λ _. P type) [
          | inl e ↦ subst P (sym e) (careof_init_takes body m are)
          | inr n2 ↦ elim (cases_eq type 3) as (λ _. P type) [
            | inl e ↦ subst P (sym e) (home_test_takes body m are)
            | inr n3 ↦ elim (cases_eq type 4) as (λ _. P type) [
              | inl e ↦ subst P (sym e) (careof_test_takes body m are)
              | inr n4 ↦ elim (cases_eq type 5) as (λ _. P type) [
                | inl e ↦ subst P (sym e) (update_takes body m are)
                | inr n5 ↦ elim (cases_eq type 6) as (λ _. P type) [
                  | inl e ↦ subst P (sym e) (acknowledgement_takes body m are)
                  | inr n6 ↦ let e : type ≡ 7 = omega arith in subst P (sym e) (error_takes body m are)
                ]
              ]
            ]
          ]
        ]
      ]
    ]

-- the tests before the fields
record Checked (source destination : Address) (type : ℕ) (body : List ℕ) : Type 0 where
  long : 8 ≤ length body
  size : length body ≡ 8 + 8 * slice_index body 1
  sum : is_right_sum source destination 135 body ≡ true
  small : type ≤ 7
  is : slice_index body 2 ≡ type
  proto : slice_index body 0 ≡ 59
  least_len : least_of type ≤ slice_index body 1

type_takes : (source destination : Address) (type : ℕ) (body : List ℕ) → type_in source destination body ≡ Ok type → Checked source destination type body
unfolding type_in
type_takes source destination type body =
    let n = length body in
    let t = slice_index body 2 in
    let P : Result ℕ Fault → Type 0 = λ r. r ≡ Ok type → Checked source destination type body in
    cond_both (ltb n 8 || not (eqb n (8 + 8 * slice_index body 1))) _ _ P (λ wrong e. absurd cc) (λ size.
    cond_both (not (is_right_sum source destination 135 body)) _ _ P (λ wrong e. absurd cc) (λ sum.
    cond_both (ltb 7 t) _ _ P (λ wrong e. absurd cc) (λ known.
    cond_both (not (eqb (slice_index body 0) 59)) _ _ P (λ wrong e. absurd cc) (λ proto.
    cond_both (ltb (slice_index body 1) (least_of t)) _ _ P (λ wrong e. absurd cc) (λ least e.
    let here : Checked source destination t body = record {
      long = ltb-false n 8 (or_parts _ _ size).0;
      size = eqb-true n (8 + 8 * slice_index body 1) (not-false _ (or_parts _ _ size).1);
      sum = not-false _ sum;
      small = ltb-false 7 t known;
      is = refl;
      proto = eqb-true (slice_index body 0) 59 (not-false _ proto);
      least_len = ltb-false (slice_index body 1) (least_of t) least;
    } in
    subst (λ (k : ℕ). Checked source destination k body) (ok_is t type e) here)))))

-- what is read is spelled so
pub message_spelled : (source destination : Address) (body : List ℕ) (m : Said) → IsBytes body → message_of source destination body ≡ Ok m → IsMessage source destination m body
unfolding message_of
message_spelled source destination body m are e =
    let b = bind_ok (type_in source destination body) (λ t. fields_of t body) m e in
    let c = type_takes source destination b.0 body b.1 in
    let f = fields_takes b.0 body m are c.small b.2 in
    record {
      long = c.long;
      size = c.size;
      sum = c.sum;
      type = c.is ∙ sym f.type_is;
      proto = c.proto;
      least_len = subst (λ (t : ℕ). least_of t ≤ slice_index body 1) (sym f.type_is) c.least_len;
      fields = f.fields;
    }

small_type : (m : Said) → type_of m ≤ 7
small_type (Refresh o) = omega arith
small_type _ = omega arith

fields_again : (m : Said) (body : List ℕ) → IsFields m body → fields_of (type_of m) body ≡ Ok m
unfolding fields_of refresh_of home_init_of careof_init_of home_test_of careof_test_of update_of acknowledgement_of error_of
fields_again (Refresh o) body is = rw (options_read 8 body o is) refl
fields_again (HomeInit c o) body is = rw (options_read 16 body o is.1, is.0) refl
fields_again (CareofInit c o) body is = rw (options_read 16 body o is.1, is.0) refl
fields_again (HomeTest i c t o) body is = rw (options_read 24 body o is.3, is.0, is.1, is.2) refl
fields_again (CareofTest i c t o) body is = rw (options_read 24 body o is.3, is.0, is.1, is.2) refl
fields_again (Update s a h l k t o) body is = rw (options_read 12 body o is.6, is.0, is.1, is.2, is.3, is.4, is.5) refl
fields_again (Acknowledgement s k q t o) body is = rw (options_read 12 body o is.4, is.0, is.1, is.2, is.3) refl
fields_again (Error s h o) body is = rw (options_read 24 body o is.2, is.0, is.1) refl

type_again : (source destination : Address) (m : Said) (body : List ℕ) → IsMessage source destination m body → type_in source destination body ≡ Ok (type_of m)
unfolding type_in
type_again source destination m body is =
    let n = length body in
    let known : slice_index body 2 ≤ 7 = omega (arith, is.type, small_type m) in
    let least : least_of (slice_index body 2) ≤ slice_index body 1 = subst (λ (t : ℕ). least_of t ≤ slice_index body 1) (sym is.type) is.least_len in
    cond-false _ _ _ (or_from _ _ (le-ltb n 8 is.long) (not_from_true _ (eq-eqb n (8 + 8 * slice_index body 1) is.size)))
    ∙ cond-false _ _ _ (not_from_true _ is.sum)
    ∙ cond-false _ _ _ (le-ltb 7 (slice_index body 2) known)
    ∙ cond-false _ _ _ (not_from_true _ (eq-eqb (slice_index body 0) 59 is.proto))
    ∙ cond-false _ _ _ (le-ltb (slice_index body 1) (least_of (slice_index body 2)) least)
    ∙ ap done is.type

-- what is spelled so is read
pub message_read : (source destination : Address) (body : List ℕ) (m : Said) → IsMessage source destination m body → message_of source destination body ≡ Ok m
unfolding message_of
message_read source destination body m is = rw (type_again source destination m body is) (fields_again m body is.fields)
