-- What is known of sums of 16-bit words.
use Rattle.std.proofs.Common.{◌≡◌, ℕ, zero, suc, ◌+◌, ◌-◌, ◌*◌, ◌/◌, ◌%◌, ◌<◌, ◌≤◌, List, [], ◌∷◌, ◌++◌, length, take, drop, get_or, refl, sym, ap, ◌∙◌, arith, length-append, length-drop, length-take}
use Rattle.std.proofs.lemmas.List.{drop-drop}
use Rattle.std.proofs.lemmas.Bool.{eqb-true, eqb-false, cond_both, eq-eqb}
use Rattle.std.specs.Prelude.{◌==◌, true}
use Rattle.mip_words.specs.Numbers.{IsBytes, number_at, number_bytes}
use Rattle.mip_words.specs.Addresses.{address_bytes}
use Rattle.mip_words.specs.declared.address.Address.{Address}
use Rattle.mip_words.proofs.Fields.{length-number_bytes}
use Rattle.mip_ipv6.specs.Sum.{word_sum, pseudo_header, message_sum, is_right_sum, with_number_at, folded, checksum_of}

-- words before an even place, and words behind it
pub word_sum-append : (n : ℕ) (xs ys : List ℕ) → length xs ≡ n + n → word_sum (xs ++ ys) ≡ word_sum xs + word_sum ys
unfolding word_sum
word_sum-append n [] ys e = omega arith
word_sum-append zero (x ∷ xs) ys e = absurd (omega (arith, e))
word_sum-append (suc n) (x ∷ []) ys e = absurd (omega (arith, e))
word_sum-append (suc n) (x ∷ y ∷ xs) ys e =
    let rest : word_sum (xs ++ ys) ≡ word_sum xs + word_sum ys = word_sum-append n xs ys (omega (arith, e)) in
    omega (arith, rest)

-- two bytes more
pub word_sum_two : (pair rest bytes : List ℕ) → length pair ≡ 2 → pair ++ rest ≡ bytes → word_sum bytes ≡ 256 * get_or pair 0 0 + get_or pair 1 0 + word_sum rest
unfolding word_sum
word_sum_two [] rest bytes two e = absurd (omega (arith, two))
word_sum_two (a ∷ []) rest bytes two e = absurd (omega (arith, two))
word_sum_two (a ∷ b ∷ []) rest bytes two e = ap word_sum (sym e)
word_sum_two (a ∷ b ∷ c ∷ more) rest bytes two e = absurd (omega (arith, two))

-- eight bytes more
pub word_sum_front : (front rest bytes : List ℕ) → length front ≡ 8 → front ++ rest ≡ bytes → word_sum bytes ≡ word_sum front + word_sum rest
word_sum_front front rest bytes eight e = ap word_sum (sym e) ∙ word_sum-append 4 front rest eight

-- eight bytes as one number, which is the number of four words
eight_is : (a b c d e f g h n : ℕ) → a < 256 → b < 256 → c < 256 → d < 256 → e < 256 → f < 256 → g < 256 → h < 256
    → n ≡ (((256 * a + b) * 65536 + (256 * c + d)) * 65536 + (256 * e + f)) * 65536 + (256 * g + h)
    → n / 281474976710656 + n / 4294967296 % 65536 + n / 65536 % 65536 + n % 65536 ≡ 256 * a + b + (256 * c + d + (256 * e + f + (256 * g + h)))
eight_is a b c d e f g h n a' b' c' d' e' f' g' h' is = omega (arith, is, a', b', c', d', e', f', g', h')

pub four_words : (bytes : List ℕ) → IsBytes bytes → length bytes ≡ 8
    → number_at 8 0 bytes / 281474976710656 + number_at 8 0 bytes / 4294967296 % 65536 + number_at 8 0 bytes / 65536 % 65536 + number_at 8 0 bytes % 65536 ≡ word_sum bytes
unfolding word_sum number_at
four_words [] are eight = absurd (omega (arith, eight))
four_words (a ∷ []) are eight = absurd (omega (arith, eight))
four_words (a ∷ b ∷ []) are eight = absurd (omega (arith, eight))
four_words (a ∷ b ∷ c ∷ []) are eight = absurd (omega (arith, eight))
four_words (a ∷ b ∷ c ∷ d ∷ []) are eight = absurd (omega (arith, eight))
four_words (a ∷ b ∷ c ∷ d ∷ e ∷ []) are eight = absurd (omega (arith, eight))
four_words (a ∷ b ∷ c ∷ d ∷ e ∷ f ∷ []) are eight = absurd (omega (arith, eight))
four_words (a ∷ b ∷ c ∷ d ∷ e ∷ f ∷ g ∷ []) are eight = absurd (omega (arith, eight))
four_words (a ∷ b ∷ c ∷ d ∷ e ∷ f ∷ g ∷ h ∷ []) are eight =
    let e8 = eight_is a b c d e f g h (number_at 8 0 (a ∷ b ∷ c ∷ d ∷ e ∷ f ∷ g ∷ h ∷ [])) (are 0) (are 1) (are 2) (are 3) (are 4) (are 5) (are 6) (are 7) (omega arith) in
    omega (arith, e8)
four_words (a ∷ b ∷ c ∷ d ∷ e ∷ f ∷ g ∷ h ∷ i ∷ more) are eight = absurd (omega (arith, eight))

-- the end of the list
pub word_sum_none : (bytes : List ℕ) → length bytes ≡ 0 → word_sum bytes ≡ 0
unfolding word_sum
word_sum_none [] e = refl
word_sum_none (a ∷ bytes) e = absurd (omega (arith, e))

-- one byte left
pub word_sum_one : (bytes : List ℕ) → length bytes ≡ 1 → word_sum bytes ≡ 256 * get_or bytes 0 0
unfolding word_sum
word_sum_one [] e = absurd (omega (arith, e))
word_sum_one (a ∷ []) e = refl
word_sum_one (a ∷ b ∷ bytes) e = absurd (omega (arith, e))

-- the pseudo-header is 40 bytes, cut at even places
pub pseudo_header_is : (source destination : Address) (size proto : ℕ) → word_sum (pseudo_header source destination size proto) ≡ word_sum (address_bytes source) + word_sum (address_bytes destination) + word_sum (number_bytes 4 size) + word_sum (number_bytes 4 proto)
pseudo_header_is source destination size proto =
    let first = word_sum-append 8 (address_bytes source) (address_bytes destination ++ (number_bytes 4 size ++ number_bytes 4 proto)) (length-number_bytes 16 source.0) in
    let second = word_sum-append 8 (address_bytes destination) (number_bytes 4 size ++ number_bytes 4 proto) (length-number_bytes 16 destination.0) in
    let third = word_sum-append 2 (number_bytes 4 size) (number_bytes 4 proto) (length-number_bytes 4 size) in
    omega (arith, first, second, third)

pub length-pseudo_header : (source destination : Address) (size proto : ℕ) → length (pseudo_header source destination size proto) ≡ 40
length-pseudo_header source destination size proto =
    simp (length-append, length-number_bytes) refl

pub message_sum_is : (source destination : Address) (size proto : ℕ) (body : List ℕ) → word_sum (pseudo_header source destination size proto ++ body) ≡ word_sum (pseudo_header source destination size proto) + word_sum body
message_sum_is source destination size proto body =
    word_sum-append 20 (pseudo_header source destination size proto) body (length-pseudo_header source destination size proto)

-- a 16-bit number is one word
pub word_sum-number : (number : ℕ) → number < 65536 → word_sum (number_bytes 2 number) ≡ number
unfolding word_sum number_bytes
word_sum-number number fits = omega arith

-- a 32-bit number is two
pub word_sum_number : (number : ℕ) → number < 4294967296 → word_sum (number_bytes 4 number) ≡ number / 65536 + number % 65536
unfolding word_sum number_bytes
word_sum_number number fits = omega arith

-- writing two bytes keeps the length
pub length-with_number_at : (place number : ℕ) (body : List ℕ) → place + 2 ≤ length body → length (with_number_at place number body) ≡ length body
length-with_number_at place number body inside =
    simp (length-append, length-number_bytes, length-take, length-drop) (omega arith)

-- the sum with a number in the field: the front, the number, the back
pub word_sum-with_number_at : (place number : ℕ) (body : List ℕ) → place % 2 ≡ 0 → place + 2 ≤ length body → number < 65536 → word_sum (with_number_at place number body) ≡ word_sum (take place body) + (number + word_sum (drop (place + 2) body))
word_sum-with_number_at place number body even inside fits =
    let first = word_sum-append (place / 2) (take place body) (number_bytes 2 number ++ drop (place + 2) body) (omega (arith, length-take place body)) in
    let second = word_sum-append 1 (number_bytes 2 number) (drop (place + 2) body) (length-number_bytes 2 number) in
    let third = word_sum-number number fits in
    omega (arith, first, second, third)

pub zeroed_is : (place : ℕ) (body : List ℕ) → place % 2 ≡ 0 → place + 2 ≤ length body → word_sum (with_number_at place 0 body) ≡ word_sum (take place body) + word_sum (drop 2 (drop place body))
zeroed_is place body even inside =
    word_sum-with_number_at place 0 body even inside (omega arith) ∙ ap (λ (xs : List ℕ). word_sum (take place body) + (0 + word_sum xs)) (sym (drop-drop 2 place body)) ∙ omega arith

-- the sum of a message with a number in its field, which does not change the pseudo-header
pub message_sum-with_number_at : (source destination : Address) (proto place number : ℕ) (body : List ℕ) → place + 2 ≤ length body → message_sum source destination proto (with_number_at place number body) ≡ word_sum (pseudo_header source destination (length body) proto) + word_sum (with_number_at place number body)
unfolding message_sum
message_sum-with_number_at source destination proto place number body inside =
    ap (λ (n : ℕ). word_sum (pseudo_header source destination n proto ++ with_number_at place number body)) (length-with_number_at place number body inside)
    ∙ message_sum_is source destination (length body) proto (with_number_at place number body)

-- what `checksum` writes, from the sums of its parts
pub checksum_is : (source destination : Address) (proto place : ℕ) (body : List ℕ) → place + 2 ≤ length body → checksum_of source destination proto body place ≡ 65535 - folded (word_sum (pseudo_header source destination (length body) proto) + word_sum (with_number_at place 0 body))
unfolding checksum_of
checksum_is source destination proto place body inside =
    ap (λ (n : ℕ). 65535 - folded n) (message_sum-with_number_at source destination proto place 0 body inside)

pub folded_small : (total : ℕ) → folded total ≤ 65535
folded_small total =
    cond_both (total == 0) 0 ((total - 1) % 65535 + 1) (λ n. n ≤ 65535) (λ _. omega arith) (λ _. omega arith)

-- a sum and what its checksum is: a multiple of 65535
pub folded_away : (total : ℕ) → (total + (65535 - folded total)) % 65535 ≡ 0
folded_away total =
    cond_both (total == 0) 0 ((total - 1) % 65535 + 1) (λ n. (total + (65535 - n)) % 65535 ≡ 0)
    (λ none. let e : total ≡ 0 = eqb-true total 0 none in omega (arith, e))
    (λ some. let n : total ≡ 0 → _ = eqb-false total 0 some in omega arith)

-- with the checksum in its field, the sum is right
pub checksum_whole : (source destination : Address) (proto place : ℕ) (body : List ℕ) → place % 2 ≡ 0 → place + 2 ≤ length body → is_right_sum source destination proto (with_number_at place (checksum_of source destination proto body place) body) ≡ true
unfolding checksum_of
checksum_whole source destination proto place body even inside =
    let total : ℕ = message_sum source destination proto (with_number_at place 0 body) in
    let small = folded_small total in
    let whole = message_sum-with_number_at source destination proto place (65535 - folded total) body inside in
    let zeroed = message_sum-with_number_at source destination proto place 0 body inside in
    let written = word_sum-with_number_at place (65535 - folded total) body even inside (omega arith) in
    let blank = word_sum-with_number_at place 0 body even inside (omega arith) in
    eq-eqb _ 0 (ap (λ (n : ℕ). n % 65535) (whole ∙ omega (arith, written, blank, zeroed)) ∙ folded_away total)
