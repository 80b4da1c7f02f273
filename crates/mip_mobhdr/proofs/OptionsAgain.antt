-- What is spelled so is read: the walk takes the items of a run one after another.
use Rattle.std.proofs.Common.{◌≡◌, ℕ, ◌+◌, ◌^◌, ◌<◌, ◌≤◌, List, [], ◌∷◌, ◌++◌, length, drop, get_or, refl, sym, ap, subst, ◌∙◌, true, false, ◌&&◌, eqb, ltb, arith, length-append, inl, inr}
use Rattle.std.proofs.lemmas.Bool.{cond-false, ne_eqb, eq-eqb, lt-ltb, cases_eq, le-ltb, not_from_true, or_from, and_left}
use Rattle.std.proofs.lemmas.List.{append_assoc, take_at, drop_at}
use Rattle.std.specs.Prelude.{Ok, Option, Some, None, is_some, cond}
use Rattle.std.specs.List.{flat_map}
use Rattle.mip_words.specs.Numbers.{number_at, number_bytes}
use Rattle.mip_words.specs.Addresses.{address_bytes}
use Rattle.mip_words.specs.declared.address.Address.{Address}
use Rattle.mip_words.proofs.Fields.{length-number_bytes, number_at-number_bytes, number_at-behind}
use Rattle.mip_mobhdr.specs.declared.indices.Indices.{Indices}
use Rattle.mip_mobhdr.specs.OptionValues.{Values, nothing}
use Rattle.mip_mobhdr.specs.OptionReading.{is_length_of, is_seen, is_first_number, with_value, option_at, options_after, options_of}
use Rattle.mip_mobhdr.specs.OptionSpelling.{Item, item_bytes, IsSkipped, IsPassed, IsNext, IsRun, IsSpelled}
use Rattle.mip_mobhdr.specs.OptionSpelling.Item.{Pad, Advice, Alternate, Nonces, Number, Authorization, Skipped}
use Rattle.mip_mobhdr.proofs.OptionWalking.{goes_on, is_done, number-append}

-- the walk takes this item, which lies before the rest
record Read (place : ℕ) (v : Values) (bytes rest : List ℕ) (w : Values) : Type 0 where
  size : ℕ
  is : option_at place (get_or (bytes ++ rest) 0 0) v (drop 1 (bytes ++ rest)) ≡ Ok (w, size)
  some : 0 < length (bytes ++ rest)
  inside : size ≤ length (drop 1 (bytes ++ rest))
  left : drop size (drop 1 (bytes ++ rest)) ≡ rest

-- an option of k bytes that may stand here
sized : (place type k : ℕ) (v w : Values) (contents rest : List ℕ) → (type ≡ 0 → ⊥) → length contents ≡ k → is_length_of type k ≡ true → is_seen type v ≡ false → (eqb type 5 && ltb 13 (length (k ∷ (contents ++ rest)))) ≡ false → with_value type v (k ∷ (contents ++ rest)) ≡ w → Read place v (type ∷ k ∷ contents) rest w
unfolding option_at
sized place type k v w contents rest nonzero long right first last value = record {
  size = 1 + k;
  is = cond-false _ _ _ (ne_eqb type 0 nonzero)
      ∙ cond-false _ _ _ (or_from _ _ (le-ltb (length (k ∷ (contents ++ rest))) 1 (omega arith)) (le-ltb (length (k ∷ (contents ++ rest))) (1 + k) (omega (arith, long, length-append contents rest))))
      ∙ cond-false _ _ _ (not_from_true _ right)
      ∙ cond-false _ _ _ first
      ∙ cond-false _ _ _ last
      ∙ ap (λ (x : Values). Ok (x, 1 + k)) value;
  some = omega arith;
  inside = omega (arith, long, length-append contents rest);
  left = drop_at (k ∷ contents) rest (1 + k) (omega (arith, long));
}

pad_read : (place : ℕ) (v : Values) (rest : List ℕ) → Read place v (0 ∷ []) rest v
unfolding option_at
pad_read place v rest = record { size = 0; is = refl; some = omega arith; inside = omega arith; left = refl }

not_there : {A : Type 0} (o : Option A) → o ≡ None → is_some o ≡ false
not_there o e = rw e refl

-- the two bytes behind a length byte are a number
first_number : (n k x : ℕ) (rest : List ℕ) → x < 256 ^ n → number_at n 1 (k ∷ (number_bytes n x ++ rest)) ≡ x
first_number n k x rest fits = number_at-behind n 1 0 (k ∷ []) (number_bytes n x ++ rest) (omega arith) ∙ number_at-number_bytes n x rest fits

advice_read : (place : ℕ) (v : Values) (units : ℕ) (rest : List ℕ) → units < 2 ^ 16 → v.advice ≡ None → Read place v (2 ∷ 2 ∷ number_bytes 2 units) rest (record v { advice = Some units })
unfolding with_value
advice_read place v units rest fits first =
    let value = ap (λ (x : ℕ). record v { advice = Some x }) (first_number 2 2 units rest fits) in
    sized place 2 2 v _ (number_bytes 2 units) rest (λ e. absurd cc) (length-number_bytes 2 units) refl (not_there v.advice first) refl value

alternate_read : (place : ℕ) (v : Values) (address : Address) (rest : List ℕ) → address.0 < 2 ^ 128 → v.alternate ≡ None → Read place v (3 ∷ 16 ∷ address_bytes address) rest (record v { alternate = Some address })
unfolding with_value
alternate_read place v address rest fits first =
    let value = ap (λ (x : ℕ). record v { alternate = Some (record { 0 = x }) }) (first_number 16 16 address.0 rest fits) in
    sized place 3 16 v _ (address_bytes address) rest (λ e. absurd cc) (length-number_bytes 16 address.0) refl (not_there v.alternate first) refl value

nonces_read : (place : ℕ) (v : Values) (i : Indices) (rest : List ℕ) → i.home < 2 ^ 16 → i.careof < 2 ^ 16 → v.nonces ≡ None → Read place v (4 ∷ 4 ∷ (number_bytes 2 i.home ++ number_bytes 2 i.careof)) rest (record v { nonces = Some i })
unfolding with_value
nonces_read place v i rest home careof first =
    let hs = number_bytes 2 i.home in
    let cs = number_bytes 2 i.careof in
    let h : number_at 2 1 (4 ∷ (hs ++ cs ++ rest)) ≡ i.home = rw (append_assoc hs cs rest) (first_number 2 4 i.home (cs ++ rest) home) in
    let c : number_at 2 3 (4 ∷ (hs ++ cs ++ rest)) ≡ i.careof = rw (append_assoc hs cs rest) (number_at-behind 2 3 0 (4 ∷ hs) (cs ++ rest) (omega (arith, length-number_bytes 2 i.home)) ∙ number_at-number_bytes 2 i.careof rest careof) in
    let value = ap (λ (x : ℕ). record v { nonces = Some (record { home = x; careof = number_at 2 3 (4 ∷ (hs ++ cs ++ rest)) }) }) h ∙ ap (λ (x : ℕ). record v { nonces = Some (record { home = i.home; careof = x }) }) c in
    sized place 4 4 v _ (hs ++ cs) rest (λ e. absurd cc) (omega (arith, length-append hs cs, length-number_bytes 2 i.home, length-number_bytes 2 i.careof)) refl (not_there v.nonces first) refl value

number_read : (place : ℕ) (v : Values) (n : ℕ) (rest : List ℕ) → n < 8 → v.number ≡ None → Read place v (200 ∷ 2 ∷ number_bytes 2 n) rest (record v { number = Some n })
unfolding with_value
number_read place v n rest fits first =
    let at : number_at 2 1 (2 ∷ (number_bytes 2 n ++ rest)) ≡ n = first_number 2 2 n rest (omega arith) in
    let counts : is_first_number v (2 ∷ (number_bytes 2 n ++ rest)) ≡ true = rw (first, at) (lt-ltb n 8 fits) in
    let value = ap (λ b. cond b (record v { number = Some (number_at 2 1 (2 ∷ (number_bytes 2 n ++ rest))) }) v) counts ∙ ap (λ (x : ℕ). record v { number = Some x }) at in
    sized place 200 2 v _ (number_bytes 2 n) rest (λ e. absurd cc) (length-number_bytes 2 n) refl refl refl value

authorization_read : (place : ℕ) (v : Values) (bytes : List ℕ) → length bytes ≡ 12 → v.authorization ≡ None → Read place v (5 ∷ 12 ∷ bytes) [] (record v { authorization = Some bytes })
unfolding with_value
authorization_read place v bytes long first =
    let value = ap (λ (x : List ℕ). record v { authorization = Some x }) (take_at bytes [] 12 long) in
    sized place 5 12 v _ bytes [] (λ e. absurd cc) long refl (not_there v.authorization first) (le-ltb 13 (length (12 ∷ (bytes ++ []))) (omega (arith, long, length-append bytes []))) value

-- an option of type 200 that is passed over leaves the values
passed_over : (type : ℕ) (v : Values) (contents rest : List ℕ) → IsPassed v type contents → (eqb type 200 && is_first_number v (length contents ∷ (contents ++ rest))) ≡ false
passed_over type v contents rest passed = elim (cases_eq type 200) [
  | inl same ↦ ap (λ b. b && is_first_number v (length contents ∷ (contents ++ rest))) (eq-eqb type 200 same) ∙ number-append v contents rest ∙ passed same
  | inr other ↦ ap (λ b. b && is_first_number v (length contents ∷ (contents ++ rest))) (ne_eqb type 200 other)
]

skipped_read : (place : ℕ) (v : Values) (type : ℕ) (contents rest : List ℕ) (w : Values) → IsSkipped type contents → IsPassed v type contents → v ≡ w → Read place v (type ∷ length contents ∷ contents) rest w
unfolding with_value
skipped_read place v type contents rest w is passed value =
    let t2 = ne_eqb type 2 is.not_advice in
    let t3 = ne_eqb type 3 is.not_alternate in
    let t4 = ne_eqb type 4 is.not_nonces in
    let t5 = ne_eqb type 5 is.not_authorization in
    let right = cond-false _ _ _ t2 ∙ cond-false _ _ _ t3 ∙ cond-false _ _ _ t4 ∙ cond-false _ _ _ t5 in
    let first = cond-false _ _ _ t2 ∙ cond-false _ _ _ t3 ∙ cond-false _ _ _ t4 ∙ cond-false _ _ _ t5 in
    let kept = cond-false _ _ _ t2 ∙ cond-false _ _ _ t3 ∙ cond-false _ _ _ t4 ∙ cond-false _ _ _ t5 ∙ cond-false _ _ _ (passed_over type v contents rest passed) in
    sized place type (length contents) v w contents rest is.not_pad refl right first (and_left _ _ t5) (kept ∙ value)

item_read : (place : ℕ) (v : Values) (item : Item) (items : List Item) (w : Values) → IsNext v item items w → Read place v (item_bytes item) (flat_map item_bytes items) w
item_read place v Pad items w same = subst (Read place v (0 ∷ []) (flat_map item_bytes items)) same (pad_read place v (flat_map item_bytes items))
item_read place v (Advice units) items w (fits, first, value) = subst (Read place v (item_bytes (Advice units)) (flat_map item_bytes items)) value (advice_read place v units (flat_map item_bytes items) fits first)
item_read place v (Alternate address) items w (fits, first, value) = subst (Read place v (item_bytes (Alternate address)) (flat_map item_bytes items)) value (alternate_read place v address (flat_map item_bytes items) fits first)
item_read place v (Nonces i) items w (home, careof, first, value) = subst (Read place v (item_bytes (Nonces i)) (flat_map item_bytes items)) value (nonces_read place v i (flat_map item_bytes items) home careof first)
item_read place v (Number n) items w (fits, first, value) = subst (Read place v (item_bytes (Number n)) (flat_map item_bytes items)) value (number_read place v n (flat_map item_bytes items) fits first)
item_read place v (Authorization bytes) items w (long, last, first, value) =
    let end : [] ≡ flat_map item_bytes items = ap (flat_map item_bytes) (sym last) in
    subst (λ (l : List ℕ). Read place v (5 ∷ 12 ∷ bytes) l w) end (subst (Read place v (5 ∷ 12 ∷ bytes) []) value (authorization_read place v bytes long first))
item_read place v (Skipped type contents) items w (is, passed, value) = skipped_read place v type contents (flat_map item_bytes items) w is passed value

run_read : (place : ℕ) (v : Values) (items : List Item) (w : Values) → IsRun v items w → options_after 0 place v (flat_map item_bytes items) ≡ Ok w
run_read place v [] w run = is_done place v [] refl ∙ ap Ok run
run_read place v (item ∷ items) w (middle, next, run) =
    let one = item_read place v item items middle next in
    goes_on place v _ middle one.size one.some one.is one.inside
    ∙ ap (options_after 0 (place + 1 + one.size) middle) one.left
    ∙ run_read (place + 1 + one.size) middle items w run

-- what is spelled so is read
pub options_read : (start : ℕ) (message : List ℕ) (w : Values) → IsSpelled w (drop start message) → options_of start message ≡ Ok w
unfolding options_of
options_read start message w (items, run, whole) = ap (options_after 0 start nothing) whole ∙ run_read start nothing items w run
