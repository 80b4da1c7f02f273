-- What is read is spelled so: each option that the walk took is an item of the run.
use Rattle.std.proofs.Common.{◌≡◌, ℕ, zero, suc, ◌+◌, ◌<◌, ◌≤◌, List, [], ◌∷◌, ◌++◌, length, take, drop, refl, Bool, sym, ap, subst, ◌∙◌, true, false, not, ◌&&◌, ◌||◌, eqb, ltb, arith, inl, inr, length-drop, length-take, take-append-drop}
use Rattle.std.proofs.lemmas.Bool.{cond_both, cond-false, eqb-true, eqb-false, ne_eqb, ltb-false, not-false, not-true, or_parts, and_parts, eq-eqb, ltb-true, cases_eq}
use Rattle.std.proofs.lemmas.List.{drop_all, drop-drop}
use Rattle.std.proofs.Math.Seq.{take-add}
use Rattle.std.specs.Prelude.{Result, Ok, Option, Some, None, is_some, slice_index, cond}
use Rattle.std.specs.List.{flat_map}
use Rattle.mip_words.specs.Numbers.{IsBytes, number_at, number_bytes}
use Rattle.mip_words.specs.Addresses.{address_at}
use Rattle.mip_words.proofs.Fields.{IsBytes-rest, IsBytes-drop, number_at-lt, number_bytes-number_at}
use Rattle.mip_words.proofs.StepLaws.{bind_ok, ok_is}
use Rattle.mip_mobhdr.specs.OptionValues.{Values, nothing}
use Rattle.mip_mobhdr.specs.OptionReading.{is_length_of, is_seen, is_number, is_first_number, with_value, option_at, options_after, options_of}
use Rattle.mip_mobhdr.specs.OptionSpelling.{Item, item_bytes, IsSkipped, IsNext, IsRun, IsSpelled}
use Rattle.mip_mobhdr.specs.OptionSpelling.Item.{Pad, Advice, Alternate, Nonces, Number, Authorization, Skipped}
use Rattle.mip_mobhdr.proofs.OptionWalking.{number-append}

-- an option that was taken is an item, and lies before what is left
record Step (type : ℕ) (v : Values) (rest : List ℕ) (x : Values × ℕ) : Type 0 where
  item : Item
  bytes : type ∷ rest ≡ item_bytes item ++ drop x.1 rest
  next : (more : List Item) → drop x.1 rest ≡ flat_map item_bytes more → IsNext v item more x.0

-- the tests that an option with a length has passed
record Passed (type : ℕ) (v : Values) (rest : List ℕ) : Type 0 where
  fits : IsBytes rest
  small : type < 256
  nonzero : eqb type 0 ≡ false
  whole : 1 + slice_index rest 0 ≤ length rest
  right : is_length_of type (slice_index rest 0) ≡ true
  first : is_seen type v ≡ false
  last : (eqb type 5 && ltb 13 (length rest)) ≡ false

abbrev Taken : ℕ → Values → List ℕ → Type 0
Taken type v rest = Step type v rest (with_value type v rest, 1 + slice_index rest 0)

-- an option that is not there is none
none_there : {A : Type 0} (o : Option A) → is_some o ≡ false → o ≡ None
none_there None e = refl
none_there (Some x) e = absurd cc

-- the length byte, the contents and what is left
three : (k : ℕ) (rest contents : List ℕ) → 1 + slice_index rest 0 ≤ length rest → slice_index rest 0 ≡ k → contents ≡ take k (drop 1 rest) → rest ≡ k ∷ (contents ++ drop (1 + slice_index rest 0) rest)
three k [] contents whole e c = absurd (omega arith)
three k (size ∷ more) contents whole e c =
    let same : 1 + size ≡ suc k = omega arith in
    let left : drop (1 + size) (size ∷ more) ≡ drop k more = ap (λ (i : ℕ). drop i (size ∷ more)) same in
    let cut = take-append-drop k more in
    rw (left, c, cut) (ap (λ (s : ℕ). s ∷ more) e)

-- two pieces beside each other are one
two_pieces : (i j k : ℕ) (a b xs : List ℕ) → a ≡ take i (drop k xs) → b ≡ take j (drop (k + i) xs) → a ++ b ≡ take (i + j) (drop k xs)
two_pieces i j k a b xs first second =
    rw (first, second, sym (drop-drop i k xs)) (sym (take-add i j (drop k xs)))

-- no item has no bytes
no_items : (more : List Item) → [] ≡ flat_map item_bytes more → more ≡ []
no_items [] e = refl
no_items (Pad ∷ more) e = absurd cc
no_items (Advice units ∷ more) e = absurd cc
no_items (Alternate address ∷ more) e = absurd cc
no_items (Nonces indices ∷ more) e = absurd cc
no_items (Number number ∷ more) e = absurd cc
no_items (Authorization bytes ∷ more) e = absurd cc
no_items (Skipped type contents ∷ more) e = absurd cc

unchanged : (type : ℕ) (v : Values) (rest : List ℕ) → (type ≡ 2 → ⊥) → (type ≡ 3 → ⊥) → (type ≡ 4 → ⊥) → (type ≡ 5 → ⊥) → (eqb type 200 && is_first_number v rest) ≡ false → with_value type v rest ≡ v
unfolding with_value
unchanged type v rest n2 n3 n4 n5 passed =
    cond-false _ _ _ (ne_eqb type 2 n2) ∙ cond-false _ _ _ (ne_eqb type 3 n3)
    ∙ cond-false _ _ _ (ne_eqb type 4 n4) ∙ cond-false _ _ _ (ne_eqb type 5 n5) ∙ cond-false _ _ _ passed

not_taken : (type : ℕ) (v : Values) (rest : List ℕ) → (type ≡ 200 → is_first_number v rest ≡ false) → (eqb type 200 && is_first_number v rest) ≡ false
not_taken type v rest passed = elim (cases_eq type 200) [
  | inl same ↦ ap (λ b. b && is_first_number v rest) (eq-eqb type 200 same) ∙ passed same
  | inr other ↦ ap (λ b. b && is_first_number v rest) (ne_eqb type 200 other)
]

skipped_taken : (type : ℕ) (v : Values) (rest : List ℕ) → Passed type v rest → (type ≡ 2 → ⊥) → (type ≡ 3 → ⊥) → (type ≡ 4 → ⊥) → (type ≡ 5 → ⊥) → (type ≡ 200 → is_first_number v rest ≡ false) → Taken type v rest
skipped_taken type v rest p n2 n3 n4 n5 passed =
    let size = slice_index rest 0 in
    let contents = take size (drop 1 rest) in
    let long : length contents ≡ size = omega (arith, length-take size (drop 1 rest), length-drop 1 rest, p.whole) in
    let cut = three (length contents) rest contents p.whole (sym long) (ap (λ (k : ℕ). take k (drop 1 rest)) (sym long)) in
    let is : IsSkipped type contents = record {
      type_fits = p.small;
      size_fits = omega (arith, long, p.fits 0);
      not_pad = eqb-false type 0 p.nonzero;
      not_advice = n2;
      not_alternate = n3;
      not_nonces = n4;
      not_authorization = n5;
    } in
    record {
      item = Skipped type contents;
      bytes = ap (λ (l : List ℕ). type ∷ l) cut;
      next = λ more e. (is, (λ same. sym (number-append v contents (drop (1 + size) rest)) ∙ ap (is_first_number v) (sym cut) ∙ passed same), sym (unchanged type v rest n2 n3 n4 n5 (not_taken type v rest passed)));
    }

advice_taken : (v : Values) (rest : List ℕ) → Passed 2 v rest → Taken 2 v rest
unfolding with_value
advice_taken v rest p =
    let size = eqb-true (slice_index rest 0) 2 p.right in
    let units = number_at 2 1 rest in
    let cut = three 2 rest (number_bytes 2 units) p.whole size (number_bytes-number_at 2 1 rest p.fits (omega (arith, p.whole, size))) in
    record {
      item = Advice units;
      bytes = ap (λ (l : List ℕ). 2 ∷ l) cut;
      next = λ more e. (number_at-lt 2 1 rest p.fits, none_there v.advice p.first, refl);
    }

alternate_taken : (v : Values) (rest : List ℕ) → Passed 3 v rest → Taken 3 v rest
unfolding with_value
alternate_taken v rest p =
    let size = eqb-true (slice_index rest 0) 16 p.right in
    let address = address_at 1 rest in
    let cut = three 16 rest (number_bytes 16 address.0) p.whole size (number_bytes-number_at 16 1 rest p.fits (omega (arith, p.whole, size))) in
    record {
      item = Alternate address;
      bytes = ap (λ (l : List ℕ). 3 ∷ l) cut;
      next = λ more e. (number_at-lt 16 1 rest p.fits, none_there v.alternate p.first, refl);
    }

nonces_taken : (v : Values) (rest : List ℕ) → Passed 4 v rest → Taken 4 v rest
unfolding with_value
nonces_taken v rest p =
    let size = eqb-true (slice_index rest 0) 4 p.right in
    let home = number_at 2 1 rest in
    let careof = number_at 2 3 rest in
    let long : 5 ≤ length rest = omega (arith, p.whole, size) in
    let both = two_pieces 2 2 1 (number_bytes 2 home) (number_bytes 2 careof) rest (number_bytes-number_at 2 1 rest p.fits (omega (arith, long))) (number_bytes-number_at 2 3 rest p.fits (omega (arith, long))) in
    let cut = three 4 rest (number_bytes 2 home ++ number_bytes 2 careof) p.whole size both in
    record {
      item = Nonces (record { home = home; careof = careof });
      bytes = ap (λ (l : List ℕ). 4 ∷ l) cut;
      next = λ more e. (number_at-lt 2 1 rest p.fits, number_at-lt 2 3 rest p.fits, none_there v.nonces p.first, refl);
    }

authorization_taken : (v : Values) (rest : List ℕ) → Passed 5 v rest → Taken 5 v rest
unfolding with_value
authorization_taken v rest p =
    let size = eqb-true (slice_index rest 0) 12 p.right in
    let bytes = take 12 (drop 1 rest) in
    let long : length bytes ≡ 12 = omega (arith, length-take 12 (drop 1 rest), length-drop 1 rest, p.whole, size) in
    let cut = three 12 rest bytes p.whole size refl in
    let end : drop (1 + slice_index rest 0) rest ≡ [] = drop_all _ rest (omega (arith, ltb-false 13 (length rest) p.last, size)) in
    record {
      item = Authorization bytes;
      bytes = ap (λ (l : List ℕ). 5 ∷ l) cut;
      next = λ more e. (long, no_items more (sym end ∙ e), none_there v.authorization p.first, refl);
    }

-- the first binding number
number_taken : (v : Values) (rest : List ℕ) → Passed 200 v rest → is_first_number v rest ≡ true → Taken 200 v rest
unfolding with_value
number_taken v rest p counts =
    let parts = and_parts (not (is_some v.number)) (is_number rest) counts in
    let number = and_parts (eqb (slice_index rest 0) 2) (ltb (number_at 2 1 rest) 8) parts.1 in
    let size = eqb-true (slice_index rest 0) 2 number.0 in
    let n = number_at 2 1 rest in
    let cut = three 2 rest (number_bytes 2 n) p.whole size (number_bytes-number_at 2 1 rest p.fits (omega (arith, p.whole, size))) in
    let value : with_value 200 v rest ≡ record v { number = Some n } = ap (λ b. cond b (record v { number = Some n }) v) counts in
    record {
      item = Number n;
      bytes = ap (λ (l : List ℕ). 200 ∷ l) cut;
      next = λ more e. (ltb-true n 8 number.1, none_there v.number (not-true _ parts.0), sym value);
    }

-- any other type, and a type 200 that does not count
other_taken : (type : ℕ) (v : Values) (rest : List ℕ) → Passed type v rest → (type ≡ 2 → ⊥) → (type ≡ 3 → ⊥) → (type ≡ 4 → ⊥) → (type ≡ 5 → ⊥) → Taken type v rest
other_taken type v rest p n2 n3 n4 n5 =
    let P : ℕ → Type 0 = λ t. Passed t v rest → Taken t v rest in
    let B : Bool → Type 0 = λ b. is_first_number v rest ≡ b → Taken type v rest in
    (elim (is_first_number v rest) as B [
      | true ↦ λ counts. elim (cases_eq type 200) as (λ _. Taken type v rest) [
        | inl e ↦ subst P (sym e) (λ q. number_taken v rest q counts) p
        | inr other ↦ skipped_taken type v rest p n2 n3 n4 n5 (λ e. absurd (other e))
      ]
      | false ↦ λ none. skipped_taken type v rest p n2 n3 n4 n5 (λ e. none)
    ]) refl

known_taken : (type : ℕ) (v : Values) (rest : List ℕ) → Passed type v rest → Taken type v rest
known_taken type v rest p =
    let P : ℕ → Type 0 = λ t. Passed t v rest → Taken t v rest in
    elim (cases_eq type 2) as (λ _. Taken type v rest) [
      | inl e ↦ subst P (sym e) (advice_taken v rest) p
      | inr n2 ↦ elim (cases_eq type 3) as (λ _. Taken type v rest) [
        | inl e ↦ subst P (sym e) (alternate_taken v rest) p
        | inr n3 ↦ elim (cases_eq type 4) as (λ _. Taken type v rest) [
          | inl e ↦ subst P (sym e) (nonces_taken v rest) p
          | inr n4 ↦ elim (cases_eq type 5) as (λ _. Taken type v rest) [
            | inl e ↦ subst P (sym e) (authorization_taken v rest) p
            | inr n5 ↦ other_taken type v rest p n2 n3 n4 n5
          ]
        ]
      ]
    ]

pad_taken : (type : ℕ) (v : Values) (rest : List ℕ) → type ≡ 0 → Step type v rest (v, 0)
pad_taken type v rest e = record {
  item = Pad;
  bytes = ap (λ (t : ℕ). t ∷ rest) e;
  next = λ more _. refl;
}

step : (place type : ℕ) (v : Values) (rest : List ℕ) (x : Values × ℕ) → IsBytes rest → type < 256 → option_at place type v rest ≡ Ok x → Step type v rest x
unfolding option_at
step place type v rest x fits small =
    let size = slice_index rest 0 in
    let P : Result (Values × ℕ) ℕ → Type 0 = λ r. r ≡ Ok x → Step type v rest x in
    cond_both (eqb type 0) _ _ P (λ pad e. subst (λ (y : Values × ℕ). Step type v rest y) (ok_is _ x e) (pad_taken type v rest (eqb-true type 0 pad))) (λ nonzero.
    cond_both (ltb (length rest) 1 || ltb (length rest) (1 + size)) _ _ P (λ short e. absurd cc) (λ whole.
    cond_both (not (is_length_of type size)) _ _ P (λ wrong e. absurd cc) (λ right.
    cond_both (is_seen type v) _ _ P (λ again e. absurd cc) (λ first.
    cond_both (eqb type 5 && ltb 13 (length rest)) _ _ P (λ behind e. absurd cc) (λ last e.
    let passed : Passed type v rest = record {
      fits = fits;
      small = small;
      nonzero = nonzero;
      whole = ltb-false (length rest) (1 + size) (or_parts _ _ whole).1;
      right = not-false _ right;
      first = first;
      last = last;
    } in
    subst (λ (y : Values × ℕ). Step type v rest y) (ok_is _ x e) (known_taken type v rest passed))))))

-- the bytes are the items of a run
record Items (v : Values) (bytes : List ℕ) (w : Values) : Type 0 where
  items : List Item
  run : IsRun v items w
  whole : bytes ≡ flat_map item_bytes items

after_takes : (taken place : ℕ) (v : Values) (bytes : List ℕ) (w : Values) → IsBytes bytes → options_after taken place v bytes ≡ Ok w → Items v (drop taken bytes) w
unfolding options_after
after_takes zero place v [] w are e = record { items = []; run = ok_is v w e; whole = refl }
after_takes (suc n) place v [] w are e = record { items = []; run = ok_is v w e; whole = refl }
after_takes (suc n) place v (b ∷ rest) w are e = after_takes n (place + 1) v rest w (IsBytes-rest b rest are) e
after_takes zero place v (type ∷ rest) w are e =
    let fits = IsBytes-rest type rest are in
    let b = bind_ok (option_at place type v rest) (λ x. options_after x.1 (place + 1) x.0 rest) w e in
    let one = step place type v rest b.0 fits (are 0) b.1 in
    let more = after_takes b.0.1 (place + 1) b.0.0 rest w fits b.2 in
    record {
      items = one.item ∷ more.items;
      run = (b.0.0, one.next more.items more.whole, more.run);
      whole = one.bytes ∙ ap (λ (l : List ℕ). item_bytes one.item ++ l) more.whole;
    }

-- what is read is spelled so
pub options_spelled : (start : ℕ) (message : List ℕ) (w : Values) → IsBytes message → options_of start message ≡ Ok w → IsSpelled w (drop start message)
unfolding options_of
options_spelled start message w are e =
    let all = after_takes 0 start nothing (drop start message) w (IsBytes-drop start message are) e in
    (all.items, all.run, all.whole)
