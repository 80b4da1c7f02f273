-- What is known of decimal numbers: a field that is read is spelled so, and a field that is spelled so is read.
use Rattle.std.proofs.Common.{◌≡◌, ◌≢◌, ℕ, zero, suc, ◌+◌, ◌*◌, ◌^◌, ◌<◌, ◌≤◌, List, [], ◌∷◌, length, drop, true, false, refl, sym, ap, ◌∙◌, subst, inl, inr, arith, nat_le}
use Rattle.std.specs.Prelude.{Option, Some, None, MatchOption, decimal, ◌&&◌, ◌==◌, ◌⊎◌, slice_index}
use Rattle.std.specs.Char.{digit_value}
use Rattle.std.specs.Option.{SomeIff}
use Rattle.std.specs.Str.{bytes_eq}
use Rattle.std.specs.Str.Parse.{AllDigits, digits_value, digits_value_after}
use Rattle.std.proofs.lemmas.Bool.{cond_both, cond-true, cond-false, cases_Bool, and_parts, and_from, and_left, and_right, le-leb, lt-leb, leb-true, eqb-true, eq-eqb}
use Rattle.std.proofs.lemmas.List.{drop_more, drop_all}
use Rattle.std.proofs.lemmas.Slice.Eq.{bytes_eq-Decides}
use Rattle.std.proofs.lemmas.Fmt.{decimal_is_IsNumeral, decimal_nonempty, decimal-digits_value}
use Rattle.std.proofs.lemmas.Str.Parse.{numerals_by_value, tells_digits}
use Rattle.mip_lines.specs.Decimals.{number_in}

-- a list of digits, cut anywhere, is one of digits
digits_behind : (i : ℕ) (ds : List ℕ) → AllDigits 10 ds → AllDigits 10 (drop i ds)
digits_behind zero ds are = are
digits_behind (suc i) [] are = are
digits_behind (suc i) (c ∷ ds) are = digits_behind i ds are.1

-- digits behind a number make none that is less
after_grows : (ds : List ℕ) (n : ℕ) → n ≤ digits_value_after 10 n ds
after_grows [] n = omega arith
after_grows (c ∷ ds) n = let more = after_grows ds (n * 10 + digit_value c) in omega (arith, more)

-- where the next byte is no digit, or makes too great a number, the field writes no number of 64 bits
pub value_stops : (field : List ℕ) (number i : ℕ) → i < length field → digits_value_after 10 number (drop i field) ≡ digits_value 10 field
    → AllDigits 10 field → digits_value 10 field < 2 ^ 64 → (digit_value (slice_index field i) < 10) × (number * 10 + digit_value (slice_index field i) < 2 ^ 64)
value_stops field number i inside so_far digits small =
    let c = slice_index field i in
    let rest = drop (i + 1) field in
    let cut : drop i field ≡ c ∷ rest = drop_more field i 0 inside in
    let is : AllDigits 10 (c ∷ rest) = subst (AllDigits 10) cut (digits_behind i field digits) in
    let value : digits_value_after 10 (number * 10 + digit_value c) rest ≡ digits_value 10 field = ap (digits_value_after 10 number) (sym cut) ∙ so_far in
    let more = after_grows rest (number * 10 + digit_value c) in
    (is.0, omega (arith, more, value, small))

-- at the end of the field its number is complete
pub value_ends : (field : List ℕ) (number i : ℕ) → length field ≤ i → digits_value_after 10 number (drop i field) ≡ digits_value 10 field
    → (AllDigits 10 (drop i field) → AllDigits 10 field) → number < 2 ^ 64 → (AllDigits 10 field × (digits_value 10 field < 2 ^ 64)) × (number ≡ digits_value 10 field)
value_ends field number i end so_far digits small =
    let none : drop i field ≡ [] = drop_all i field end in
    let value : number ≡ digits_value 10 field = ap (digits_value_after 10 number) (sym none) ∙ so_far in
    ((digits (subst (AllDigits 10) (sym none) tt), omega (arith, value, small)), value)

-- the digits of a number are as few as any that write it
few_digits : (ds : List ℕ) → AllDigits 10 ds → 0 < length ds → digits_value 10 ds < 2 ^ 64 → length (decimal (digits_value 10 ds)) ≤ length ds
few_digits [] are some small = absurd (omega (arith, some))
few_digits (c ∷ []) are some small =
    let e = decimal-digits_value (numerals_by_value _ tells_digits) (c ∷ []) are some (λ _. refl) small in
    omega (arith, ap (λ (l : List ℕ). length l) e)
few_digits (c ∷ d ∷ ds) are some small =
    elim (cases_Bool (c == 48)) as (λ _. length (decimal (digits_value 10 (c ∷ d ∷ ds))) ≤ length (c ∷ d ∷ ds)) [
      | inl zero_first ↦
          let tail : digits_value 10 (c ∷ d ∷ ds) ≡ digits_value 10 (d ∷ ds) = ap (λ (x : ℕ). digits_value 10 (x ∷ d ∷ ds)) (eqb-true c 48 zero_first) in
          let fewer = few_digits (d ∷ ds) are.1 (omega arith) (omega (arith, tail, small)) in
          omega (arith, fewer, ap (λ (n : ℕ). length (decimal n)) tail)
      | inr other ↦
          let e = decimal-digits_value (numerals_by_value _ tells_digits) (c ∷ d ∷ ds) are some (λ z. absurd (false_not_true (sym other ∙ eq-eqb c 48 z))) small in
          omega (arith, ap (λ (l : List ℕ). length l) e)
    ]
  where
    false_not_true : false ≡ true → ⊥
    false_not_true e = cc

-- a number has a digit
pub number_not_empty : (field : List ℕ) → length field ≡ 0 → (n : ℕ) → n < 2 ^ 64 → decimal n ≢ field
number_not_empty field none n small e = let some = decimal_nonempty n small in omega (arith, some, none, ap (λ (l : List ℕ). length l) e)

-- and no zero in front of others
pub number_not_led : (field : List ℕ) → slice_index field 0 ≡ 48 → 1 < length field → (n : ℕ) → n < 2 ^ 64 → decimal n ≢ field
number_not_led [] led long n small e = absurd (omega (arith, long))
number_not_led (c ∷ []) led long n small e = absurd (omega (arith, long))
number_not_led (c ∷ d ∷ ds) led long n small e =
    let k = decimal_is_IsNumeral n small in
    let digits : AllDigits 10 (c ∷ d ∷ ds) = subst (AllDigits 10) e k.0.1 in
    let value : digits_value 10 (c ∷ d ∷ ds) ≡ n = subst (λ (f : List ℕ). digits_value 10 f ≡ n) e k.1 in
    let tail : digits_value 10 (d ∷ ds) ≡ n = ap (λ (x : ℕ). digits_value 10 (x ∷ d ∷ ds)) (sym led) ∙ value in
    let fewer = few_digits (d ∷ ds) digits.1 (omega arith) (omega (arith, tail, small)) in
    omega (arith, fewer, ap (λ (m : ℕ). length (decimal m)) tail, ap (λ (l : List ℕ). length l) e)

-- a field of digits without a zero in front is the number that it writes
pub number_written : (field : List ℕ) (o : Option ℕ) → (length field ≡ 0 → ⊥) → (slice_index field 0 ≡ 48 → 1 < length field → ⊥) → SomeIff o (AllDigits 10 field × (digits_value 10 field < 2 ^ 64)) (digits_value 10 field)
    → MatchOption o ((n : ℕ) → n < 2 ^ 64 → decimal n ≢ field) (λ n. decimal n ≡ field)
number_written field None some lead is = λ n small e.
    let k = decimal_is_IsNumeral n small in
    let value : digits_value 10 field ≡ n = subst (λ (f : List ℕ). digits_value 10 f ≡ n) e k.1 in
    is (subst (AllDigits 10) e k.0.1, omega (arith, value, small))
number_written field (Some m) some lead is =
    let long : 0 < length field = positive (length field) some in
    ap (λ (n : ℕ). decimal n) is.1
    ∙ decimal-digits_value (numerals_by_value _ tells_digits) field is.0.0 long (λ z. one (length field) long (lead z)) is.0.1
  where
    positive : (n : ℕ) → (n ≡ 0 → ⊥) → 0 < n
    positive zero some = absurd (some refl)
    positive (suc n) some = omega arith

    one : (n : ℕ) → 0 < n → (1 < n → ⊥) → n ≡ 1
    one zero long most = absurd (omega (arith, long))
    one (suc zero) long most = refl
    one (suc (suc n)) long most = absurd (most (omega arith))

pub some_digit : (field : List ℕ) → false ≡ (length field == 0) → length field ≡ 0 → ⊥
some_digit field some none = let e : false ≡ true = some ∙ eq-eqb (length field) 0 none in cc

pub no_lead : (field : List ℕ) → ((slice_index field 0 ≡ 48) × (length field ≤ 1)) ⊎ (slice_index field 0 ≡ 48 → ⊥) → slice_index field 0 ≡ 48 → 1 < length field → ⊥
no_lead field (inl (led, short)) is long = omega (arith, short, long)
no_lead field (inr other) is long = other is

value_is : (field : List ℕ) (n : ℕ) → n < 2 ^ 64 → decimal n ≡ field → digits_value 10 field ≡ n
value_is field n small e = subst (λ (f : List ℕ). digits_value 10 f ≡ n) e (decimal_is_IsNumeral n small).1

same_bytes : (xs ys : List ℕ) → xs ≡ ys → bytes_eq xs ys ≡ true
same_bytes xs ys e = (bytes_eq-Decides xs ys).1 e

pub number_is : (low high : ℕ) (field : List ℕ) (n : ℕ) → n < 2 ^ 64 → decimal n ≡ field → low ≤ n → n ≤ high → number_in low high field ≡ Some n
unfolding number_in
number_is low high field n small e from to =
    let v : digits_value 10 field ≡ n = value_is field n small e in
    rw v (cond-true _ _ _ (and_from _ _ (same_bytes _ _ e) (and_from _ _ (le-leb low n from) (le-leb n high to))))

pub number_low : (low high : ℕ) (field : List ℕ) (n : ℕ) → n < 2 ^ 64 → decimal n ≡ field → n < low → number_in low high field ≡ None
unfolding number_in
number_low low high field n small e below =
    let v : digits_value 10 field ≡ n = value_is field n small e in
    rw v (cond-false _ _ _ (and_right _ _ (and_left _ _ (lt-leb low n below))))

pub number_high : (low high : ℕ) (field : List ℕ) (n : ℕ) → n < 2 ^ 64 → decimal n ≡ field → high < n → number_in low high field ≡ None
unfolding number_in
number_high low high field n small e above =
    let v : digits_value 10 field ≡ n = value_is field n small e in
    rw v (cond-false _ _ _ (and_right _ _ (and_right _ _ (lt-leb n high above))))

pub number_none : (low high : ℕ) (field : List ℕ) → high < 2 ^ 64 → ((n : ℕ) → n < 2 ^ 64 → decimal n ≢ field) → number_in low high field ≡ None
unfolding number_in
number_none low high field small none =
    let n : ℕ = digits_value 10 field in
    cond_both (bytes_eq (decimal n) field && (nat_le low n && nat_le n high)) _ _ (λ (o : Option ℕ). o ≡ None)
    (λ test.
    let p = and_parts (bytes_eq (decimal n) field) (nat_le low n && nat_le n high) test in
    let q = and_parts (nat_le low n) (nat_le n high) p.1 in
    let most : n ≤ high = leb-true n high q.1 in
    absurd (none n (omega arith) ((bytes_eq-Decides (decimal n) field).0 p.0)))
    (λ _. refl)

-- a field that is read is the number's digits, and the number is within its range
pub number-spelled : (low high : ℕ) (field : List ℕ) (x : ℕ) → number_in low high field ≡ Some x → (field ≡ decimal x) × (low ≤ x) × (x ≤ high)
unfolding number_in
number-spelled low high field x =
    let n : ℕ = digits_value 10 field in
    cond_both (bytes_eq (decimal n) field && (nat_le low n && nat_le n high)) _ _ (λ (o : Option ℕ). o ≡ Some x → (field ≡ decimal x) × (low ≤ x) × (x ≤ high))
    (λ test e.
    let same : n ≡ x = cc in
    let p = and_parts (bytes_eq (decimal n) field) (nat_le low n && nat_le n high) test in
    let q = and_parts (nat_le low n) (nat_le n high) p.1 in
    subst (λ (y : ℕ). (field ≡ decimal y) × (low ≤ y) × (y ≤ high)) same
    (sym ((bytes_eq-Decides (decimal n) field).0 p.0), leb-true low n q.0, leb-true n high q.1))
    (λ _ e. absurd cc)

-- the digits of a number within the range are read
pub number-again : (low high x : ℕ) → low ≤ x → x ≤ high → high < 2 ^ 64 → number_in low high (decimal x) ≡ Some x
number-again low high x from to small = number_is low high (decimal x) x (omega arith) refl from to
