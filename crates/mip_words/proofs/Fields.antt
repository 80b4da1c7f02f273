-- What is known of numbers in bytes, and of cutting a list of bytes into pieces.
use Rattle.std.proofs.Common.{◌≡◌, inl, inr, ℕ, zero, suc, ◌+◌, ◌*◌, ◌/◌, ◌^◌, ◌<◌, ◌≤◌, List, [], ◌∷◌, ◌++◌, length, take, drop, set, refl, sym, ap, ◌∙◌, subst, arith, length-drop, length-take}
use Rattle.std.proofs.lemmas.List.{append-nil, drop-drop, drop_at, drop-append-le, get_or-drop, get_or-take, get_or_past}
use Rattle.std.proofs.lemmas.Bool.{cases_lt, cases_order}
use Rattle.std.proofs.Math.Nat.{mod-lt, mul-le-mul_right, add-mul}
use Rattle.std.specs.Prelude.{slice_index}
use Rattle.std.specs.Int.{byte_at, bytes_high_first}
use Rattle.byteorder.specs.Endian.{big_from, big_number}
use Rattle.byteorder.specs.Numbers.{big_number-reads_back, big_from-append, big_from-take, big_from-lt, big_from-cons, length-bytes_high_first}
use Rattle.mip_words.specs.Numbers.{IsBytes, number_at, number_bytes}
use native.Mathlib.Numerals.{unary_clauses}

-- bytes behind a place are bytes
pub IsBytes-drop : (n : ℕ) (bytes : List ℕ) → IsBytes bytes → IsBytes (drop n bytes)
IsBytes-drop n bytes are = λ i. subst (λ (x : ℕ). x < 256) (sym (get_or-drop n bytes i 0)) (are (n + i))

pub IsBytes-take : (n : ℕ) (bytes : List ℕ) → IsBytes bytes → IsBytes (take n bytes)
IsBytes-take n bytes are = λ i.
    elim (cases_lt i n) as (λ _. slice_index (take n bytes) i < 256) [
      | inl below ↦ subst (λ (x : ℕ). x < 256) (sym (get_or-take n bytes i 0 below)) (are i)
      | inr past ↦ subst (λ (x : ℕ). x < 256) (sym (get_or_past (take n bytes) i 0 (omega (arith, length-take n bytes)))) (omega arith)
    ]

pub IsBytes-rest : (b : ℕ) (bytes : List ℕ) → IsBytes (b ∷ bytes) → IsBytes bytes
IsBytes-rest b bytes are = λ i. are (suc i)

pub IsBytes-more : (b : ℕ) (bytes : List ℕ) → b < 256 → IsBytes bytes → IsBytes (b ∷ bytes)
IsBytes-more b bytes first rest = by
  where
    by : (i : ℕ) → slice_index (b ∷ bytes) i < 256
    by zero = first
    by (suc i) = rest i

pub IsBytes-append : (xs ys : List ℕ) → IsBytes xs → IsBytes ys → IsBytes (xs ++ ys)
IsBytes-append [] ys front back = back
IsBytes-append (x ∷ xs) ys front back =
    let rest : IsBytes (xs ++ ys) = IsBytes-append xs ys (λ i. front (suc i)) back in
    IsBytes-more x (xs ++ ys) (front 0) rest

byte_small : (k x : ℕ) → byte_at k x < 256
byte_small zero x = mod-lt x (omega arith)
byte_small (suc k) x = mod-lt (x / 256 ^ suc k) (omega arith)

high_bytes : (n x : ℕ) → IsBytes (bytes_high_first n x)
high_bytes zero x = λ i. omega arith
high_bytes (suc n) x = IsBytes-more (byte_at n x) (bytes_high_first n x) (byte_small n x) (high_bytes n x)

-- a number has one quotient and one rest
one_way : (p x y r s : ℕ) → r < p → s < p → x * p + r ≡ y * p + s → (x ≡ y) × (r ≡ s)
one_way p x y r s low low' e =
    elim (cases_order x y) as (λ _. (x ≡ y) × (r ≡ s)) [
      | inl same ↦ (same, let q : x * p ≡ y * p = ap (λ (z : ℕ). z * p) same in omega arith)
      | inr (inl below) ↦ absurd (let q : (x + 1) * p ≤ y * p = mul-le-mul_right p (omega arith) in let q' : (x + 1) * p ≡ x * p + 1 * p = add-mul x 1 p in omega arith)
      | inr (inr above) ↦ absurd (let q : (y + 1) * p ≤ x * p = mul-le-mul_right p (omega arith) in let q' : (y + 1) * p ≡ y * p + 1 * p = add-mul y 1 p in omega arith)
    ]

-- a number of n bytes is written in n bytes
pub length-number_bytes : (n x : ℕ) → length (number_bytes n x) ≡ n
unfolding number_bytes
length-number_bytes n x = length-bytes_high_first n x

-- no number of n bytes reaches 256 ^ n
pub number_at-lt : (n place : ℕ) (bytes : List ℕ) → IsBytes bytes → number_at n place bytes < 256 ^ n
unfolding number_at
number_at-lt n place bytes are = big_from-lt 0 n (drop place bytes) (IsBytes-drop place bytes are)

-- a number that was written is read back
pub number_at-number_bytes : (n x : ℕ) (rest : List ℕ) → x < 256 ^ n → number_at n 0 (number_bytes n x ++ rest) ≡ x
unfolding number_at number_bytes
number_at-number_bytes n x rest fits = big_number-reads_back n x rest fits

-- a number behind other bytes
pub number_at-behind : (n at place : ℕ) (front bytes : List ℕ) → at ≡ length front + place → number_at n at (front ++ bytes) ≡ number_at n place bytes
unfolding number_at
number_at-behind n at place front bytes e =
    let cut : drop at (front ++ bytes) ≡ drop place bytes = ap (λ (k : ℕ). drop k (front ++ bytes)) e ∙ sym (drop-drop place (length front) (front ++ bytes)) ∙ ap (drop place) (drop_at front bytes (length front) refl) in
    ap (λ (xs : List ℕ). big_number n xs) cut

-- a number from a place is the number from the start of what lies behind it
pub number_at-drop : (n place : ℕ) (bytes : List ℕ) → number_at n place bytes ≡ number_at n 0 (drop place bytes)
unfolding number_at
number_at-drop n place bytes = refl

-- a number reads no byte past its end
pub number_at-append : (n place : ℕ) (bytes rest : List ℕ) → place + n ≤ length bytes → number_at n place (bytes ++ rest) ≡ number_at n place bytes
unfolding number_at
number_at-append n place bytes rest inside =
    ap (λ (xs : List ℕ). big_number n xs) (drop-append-le place bytes rest (omega arith))
    ∙ big_from-append n (drop place bytes) rest (omega (arith, length-drop place bytes))

-- the bytes of a number are bytes
pub IsBytes-number_bytes : (n x : ℕ) → IsBytes (number_bytes n x)
unfolding number_bytes
IsBytes-number_bytes n x = high_bytes n x

-- a number is spelled by one list of bytes alone
same_bytes : (n : ℕ) (xs ys : List ℕ) → length xs ≡ n → length ys ≡ n → IsBytes xs → IsBytes ys → big_from 0 n xs ≡ big_from 0 n ys → xs ≡ ys
same_bytes zero [] [] a b are are' e = refl
same_bytes zero [] (y ∷ ys) a b are are' e = absurd (omega arith)
same_bytes zero (x ∷ xs) ys a b are are' e = absurd (omega arith)
same_bytes (suc n) [] ys a b are are' e = absurd (omega arith)
same_bytes (suc n) (x ∷ xs) [] a b are are' e = absurd (omega arith)
same_bytes (suc n) (x ∷ xs) (y ∷ ys) a b are are' e =
    let left : x * 256 ^ n + big_from 0 n xs ≡ y * 256 ^ n + big_from 0 n ys =
    ap (λ (r : ℕ). x * 256 ^ n + r) (sym (big_from-cons 0 n x xs)) ∙ e ∙ ap (λ (r : ℕ). y * 256 ^ n + r) (big_from-cons 0 n y ys) in
    let digits = one_way (256 ^ n) x y (big_from 0 n xs) (big_from 0 n ys) (big_from-lt 0 n xs (IsBytes-rest x xs are)) (big_from-lt 0 n ys (IsBytes-rest y ys are')) left in
    let rest = same_bytes n xs ys (omega arith) (omega arith) (IsBytes-rest x xs are) (IsBytes-rest y ys are') digits.1 in
    cc (digits.0, rest)

-- the bytes of the number read are the bytes that it was read from
pub number_bytes-number_at : (n place : ℕ) (bytes : List ℕ) → IsBytes bytes → place + n ≤ length bytes → number_bytes n (number_at n place bytes) ≡ take n (drop place bytes)
unfolding number_at number_bytes
number_bytes-number_at n place bytes are inside =
    let xs = drop place bytes in
    let y = big_from 0 n xs in
    let small : y < 256 ^ n = big_from-lt 0 n xs (IsBytes-drop place bytes are) in
    let read : big_from 0 n (bytes_high_first n y) ≡ y = ap (big_from 0 n) (sym (append-nil (bytes_high_first n y))) ∙ big_number-reads_back n y [] small in
    let front : big_from 0 n (take n xs) ≡ y = big_from-take 0 n n xs (omega arith) in
    same_bytes n (bytes_high_first n y) (take n xs) (length-bytes_high_first n y) (omega (arith, length-take n xs, length-drop place bytes)) (high_bytes n y) (IsBytes-take n xs (IsBytes-drop place bytes are)) (read ∙ sym front)

-- two bytes that are set one after the other
two_set : (bytes : List ℕ) (place high low : ℕ) → place + 2 ≤ length bytes → set (set bytes place high) (place + 1) low ≡ take place bytes ++ (high ∷ low ∷ drop (place + 2) bytes)
two_set [] place high low fits = absurd (omega (arith, fits))
two_set (a ∷ []) place high low fits = absurd (omega (arith, fits))
two_set (a ∷ b ∷ bytes) zero high low fits = refl
two_set (a ∷ b ∷ bytes) (suc place) high low fits =
    let rest = two_set (b ∷ bytes) place high low (omega (arith, fits)) in
    simp unary_clauses (ap (λ (l : List ℕ). a ∷ l) (simp unary_clauses at rest))

pub number_set : (bytes : List ℕ) (place number : ℕ) → place + 2 ≤ length bytes
    → set (set bytes place (slice_index (number_bytes 2 number) 0)) (place + 1) (slice_index (number_bytes 2 number) 1) ≡ take place bytes ++ (number_bytes 2 number ++ drop (place + 2) bytes)
unfolding number_bytes
number_set bytes place number fits = two_set bytes place (slice_index (number_bytes 2 number) 0) (slice_index (number_bytes 2 number) 1) fits
