-- The walk over options, one step at a time.
use Rattle.std.proofs.Common.{◌≡◌, ℕ, zero, suc, ◌+◌, ◌<◌, ◌≤◌, List, [], ◌∷◌, ◌++◌, length, drop, get_or, refl, ap, ◌∙◌, arith}
use Rattle.std.specs.Prelude.{Ok, Err}
use Rattle.mip_words.specs.Numbers.{number_at}
use Rattle.mip_mobhdr.specs.OptionValues.{Values}
use Rattle.mip_mobhdr.specs.OptionReading.{is_first_number, option_at, options_after}

-- bytes that are still a part of the option before are passed over
pub options_after_skip : (n place : ℕ) (v : Values) (bytes : List ℕ) → n ≤ length bytes → options_after n place v bytes ≡ options_after 0 (place + n) v (drop n bytes)
unfolding options_after
options_after_skip zero place v bytes inside = ap (λ (k : ℕ). options_after 0 k v bytes) (omega arith)
options_after_skip (suc n) place v [] inside = absurd (omega arith)
options_after_skip (suc n) place v (b ∷ rest) inside =
    options_after_skip n (place + 1) v rest (omega arith)
    ∙ ap (λ (k : ℕ). options_after 0 k v (drop n rest)) (omega arith)

-- an option that may stand here is walked over
pub goes_on : (place : ℕ) (v : Values) (bytes : List ℕ) (w : Values) (size : ℕ) → 0 < length bytes → option_at place (get_or bytes 0 0) v (drop 1 bytes) ≡ Ok (w, size) → size ≤ length (drop 1 bytes) → options_after 0 place v bytes ≡ options_after 0 (place + 1 + size) w (drop size (drop 1 bytes))
unfolding options_after
goes_on place v [] w size some e inside = absurd (omega arith)
goes_on place v (type ∷ rest) w size some e inside = rw e (options_after_skip size (place + 1) w rest inside)

-- Pad1 is walked over
pub passes_pad : (place : ℕ) (v : Values) (bytes : List ℕ) → 0 < length bytes → get_or bytes 0 0 ≡ 0 → options_after 0 place v bytes ≡ options_after 0 (place + 1) v (drop 1 bytes)
unfolding options_after option_at
passes_pad place v [] some pad = absurd (omega arith)
passes_pad place v (type ∷ rest) some pad = rw pad refl

-- one that may not ends the walk
pub stops : (place : ℕ) (v : Values) (bytes : List ℕ) (bad : ℕ) → 0 < length bytes → option_at place (get_or bytes 0 0) v (drop 1 bytes) ≡ Err bad → options_after 0 place v bytes ≡ Err bad
unfolding options_after
stops place v [] bad some e = absurd (omega arith)
stops place v (type ∷ rest) bad some e = rw e refl

-- the end of the bytes ends it too
pub is_done : (place : ℕ) (v : Values) (bytes : List ℕ) → length bytes ≡ 0 → options_after 0 place v bytes ≡ Ok v
unfolding options_after
is_done place v [] none = refl
is_done place v (type ∷ rest) none = absurd (omega arith)

-- a number is one by its own bytes
pub number-append : (v : Values) (contents rest : List ℕ) → is_first_number v (length contents ∷ (contents ++ rest)) ≡ is_first_number v (length contents ∷ contents)
unfolding number_at
number-append v [] rest = refl
number-append v (a ∷ []) rest = refl
number-append v (a ∷ (b ∷ more)) rest = refl
