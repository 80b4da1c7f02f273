-- An update with Binding Authorization Data has room for it. RFC 6275 section 6.2.7
use Rattle.std.proofs.Common.{◌≡◌, ℕ, zero, suc, ◌+◌, ◌≤◌, List, [], ◌∷◌, length, drop, refl, sym, ap, ◌∙◌, Bool, true, false, not, ◌||◌, ◌&&◌, eqb, ltb, arith, inl, inr, length-drop}
use Rattle.std.proofs.lemmas.Bool.{cond_both, eqb-true, ltb-false, not-false, or_parts, cases_Bool}
use Rattle.std.specs.Prelude.{Result, Ok, Err, Option, Some, None, is_some, slice_index}
use Rattle.mip_words.specs.Numbers.{number_at}
use Rattle.mip_words.specs.declared.address.Address.{Address}
use Rattle.mip_words.proofs.StepLaws.{bind_ok, ok_is, done}
use Rattle.mip_mobhdr.specs.OptionValues.{Values, nothing}
use Rattle.mip_mobhdr.specs.OptionReading.{is_length_of, is_seen, is_first_number, with_value, option_at, options_after, options_of}
use Rattle.mip_mobhdr.specs.declared.fault.Fault.{Fault}
use Rattle.mip_mobhdr.specs.Said.{Said}
use Rattle.mip_mobhdr.specs.Said.Said.{Update}
use Rattle.mip_mobhdr.specs.Reading.{has_bit, or_fault, options_in, update_of}
use Rattle.mip_reception.specs.declared.registration.Registration.{Registration}
use Rattle.mip_reception.specs.Registrations.{registration, registration_said, registration_in}

abbrev has_authorization : Values → Bool
has_authorization v = is_some v.authorization

-- an option of another type brings none
kept : (type : ℕ) (v : Values) (rest : List ℕ) → eqb type 5 ≡ false → has_authorization (with_value type v rest) ≡ has_authorization v
unfolding with_value
kept type v rest other =
    let P : Values → Type 0 = λ w. has_authorization w ≡ has_authorization v in
    cond_both (eqb type 2) _ _ P (λ _. refl) (λ _.
    cond_both (eqb type 3) _ _ P (λ _. refl) (λ _.
    cond_both (eqb type 4) _ _ P (λ _. refl) (λ _.
    cond_both (eqb type 5) _ _ P (λ is. absurd cc) (λ _.
    cond_both (eqb type 200 && is_first_number v rest) _ _ P (λ _. refl) (λ _. refl)))))

-- the option that brings one has its length byte and its 12 bytes behind the type
brought : (place type : ℕ) (v : Values) (rest : List ℕ) (x : Values × ℕ) → option_at place type v rest ≡ Ok x → has_authorization v ≡ false → has_authorization x.0 ≡ true → 13 ≤ length rest
unfolding option_at
brought place type v rest x e none some =
    let size = slice_index rest 0 in
    let P : Result (Values × ℕ) ℕ → Type 0 = λ r. r ≡ Ok x → 13 ≤ length rest in
    cond_both (eqb type 0) _ _ P (λ pad e. absurd (let same = ok_is {E = ℕ} (v, 0) x e in cc)) (λ nonzero.
    cond_both (ltb (length rest) 1 || ltb (length rest) (1 + size)) _ _ P (λ short e. absurd cc) (λ whole.
    cond_both (not (is_length_of type size)) _ _ P (λ wrong e. absurd cc) (λ right.
    cond_both (is_seen type v) _ _ P (λ again e. absurd cc) (λ first.
    cond_both (eqb type 5 && ltb 13 (length rest)) _ _ P (λ behind e. absurd cc) (λ last e.
    by (ltb-false (length rest) (1 + size) (or_parts _ _ whole).1) (not-false _ right) (ok_is {E = ℕ} (with_value type v rest, 1 + size) x e)))))) e
  where
    by : 1 + slice_index rest 0 ≤ length rest → is_length_of type (slice_index rest 0) ≡ true → (with_value type v rest, 1 + slice_index rest 0) ≡ x → 13 ≤ length rest
    by whole right same = elim (cases_Bool (eqb type 5)) as (λ _. 13 ≤ length rest) [
      | inl five ↦
          let is_12 = eqb-true (slice_index rest 0) 12 (sym (ap (λ (t : ℕ). is_length_of t (slice_index rest 0)) (eqb-true type 5 five)) ∙ right) in
          omega arith
      | inr other ↦
          let same_flag = ap (λ (y : Values × ℕ). has_authorization y.0) same in
          let none_still = kept type v rest other in
          absurd cc
    ]

-- the options that bring one have its 14 bytes
walked : (taken place : ℕ) (v : Values) (bytes : List ℕ) (w : Values) → options_after taken place v bytes ≡ Ok w → has_authorization v ≡ false → has_authorization w ≡ true → 14 ≤ length bytes
unfolding options_after
walked zero place v [] w e none some = absurd (let same = ok_is {E = ℕ} v w e in cc)
walked (suc n) place v [] w e none some = absurd (let same = ok_is {E = ℕ} v w e in cc)
walked (suc n) place v (b ∷ rest) w e none some = let more = walked n (place + 1) v rest w e none some in omega arith
walked zero place v (type ∷ rest) w e none some =
    let b = bind_ok (option_at place type v rest) (λ x. options_after x.1 (place + 1) x.0 rest) w e in
    elim (cases_Bool (has_authorization b.0.0)) as (λ _. 14 ≤ suc (length rest)) [
      | inl here ↦ let long = brought place type v rest b.0 b.1 none here in omega arith
      | inr not_yet ↦ let more = walked b.0.1 (place + 1) b.0.0 rest w b.2 not_yet some in omega arith
    ]

or_fault_ok : (r : Result Values ℕ) (v : Values) → or_fault r ≡ Ok v → r ≡ Ok v
or_fault_ok (Ok x) v e = ap done (ok_is x v e)
or_fault_ok (Err place) v e = absurd cc

-- what is read of an update asks something
pub update_asks : (source : Address) (home_option : Option Address) (message : List ℕ) (m : Said) → update_of message ≡ Ok m → registration_said source home_option (Ok m) ≡ None → ⊥
unfolding update_of
update_asks source home_option message m e none =
    let flag : ℕ → Bool = λ worth. has_bit worth (slice_index message 8) in
    let f : Values → Result Said Fault = λ o. Ok (Update (number_at 2 6 message) (flag 128) (flag 64) (flag 32) (flag 16) (number_at 2 10 message) o) in
    let b = bind_ok (options_in 12 message) f m e in
    let asked : Some (registration source home_option (number_at 2 6 message) (flag 128) (flag 64) (number_at 2 10 message) b.0) ≡ None = ap (λ (x : Result Said Fault). registration_said source home_option x) b.2 ∙ none in
    cc

-- where something is asked, something was read
read : (source : Address) (home_option : Option Address) (r : Registration) (x : Result Said Fault) → registration_said source home_option x ≡ Some r → (m : Said) × (x ≡ Ok m)
read source home_option r (Ok m) e = (m, refl)
read source home_option r (Err fault) e = absurd cc

some_is : (x y : Registration) → Some x ≡ Some y → x ≡ y
some_is x y e = cc

-- so has an update that brings one, behind its first 12 bytes
pub authorized_is_long : (source : Address) (home_option : Option Address) (message : List ℕ) (r : Registration) → registration_in source home_option message ≡ Some r → r.authorized ≡ true → 26 ≤ length message
unfolding update_of options_of
authorized_is_long source home_option message r e some =
    let was = read source home_option r (update_of message) e in
    let flag : ℕ → Bool = λ worth. has_bit worth (slice_index message 8) in
    let f : Values → Result Said Fault = λ o. Ok (Update (number_at 2 6 message) (flag 128) (flag 64) (flag 32) (flag 16) (number_at 2 10 message) o) in
    let b = bind_ok (options_in 12 message) f was.0 was.1 in
    let asked = some_is (registration source home_option (number_at 2 6 message) (flag 128) (flag 64) (number_at 2 10 message) b.0) r (ap (λ (x : Result Said Fault). registration_said source home_option x) (b.2 ∙ sym was.1) ∙ e) in
    let there : has_authorization b.0 ≡ true = ap (λ (q : Registration). q.authorized) asked ∙ some in
    let long = walked 0 12 nothing (drop 12 message) b.0 (or_fault_ok (options_of 12 message) b.0 b.1) refl there in
    omega (arith, length-drop 12 message, long)
