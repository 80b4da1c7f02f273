-- The rows of one home in order of number.
use Rattle.std.proofs.Common.{◌≡◌, ◌≢◌, ℕ, zero, suc, ◌+◌, ◌-◌, ◌<◌, ◌≤◌, max, List, [], ◌∷◌, length, refl, sym, ap, ◌∙◌, inl, inr, arith}
use Rattle.std.specs.Prelude.{Option, Some, None, slice_get}
use Rattle.std.specs.List.{AllByRecursion}
use Rattle.std.proofs.lemmas.Bool.{cases_lt}
use Rattle.std.proofs.lemmas.Bool.Decides.{nat_tests}
use Rattle.mip_binding.specs.Rows.{find_by, found_by, add_found, all_numbers}
use Rattle.mip_bcache.specs.declared.row.Row.{Row}
use Rattle.mip_bcache.specs.Seen.{HomeRows, number_of, rows_of_home}

-- so many numbers from one on
abbrev pub count_up : ℕ → ℕ → List ℕ
count_up number zero = []
count_up number (suc n) = number ∷ count_up (number + 1) n

-- the numbers from one on
abbrev pub rest_from : ℕ → List ℕ
rest_from number = count_up number (8 - number)

pub all_from : rest_from 0 ≡ all_numbers
all_from = refl

pub rest_step : (number : ℕ) → number < 8 → rest_from number ≡ number ∷ rest_from (number + 1)
rest_step number less = ap (count_up number) (let e : 8 - number ≡ suc (8 - (number + 1)) = omega arith in e)

find_above : (rs : List Row) (numbers number : ℕ) → AllByRecursion (λ r. r.number < numbers) rs → numbers ≤ number → find_by number_of number rs ≡ None
find_above [] numbers number below above = refl
find_above (r ∷ rs) numbers number below above =
    let more = find_above rs numbers number below.1 above in
    let first = below.0 in
    grind (arith, nat_tests, more)

-- no row has a number beyond those that there are
pub none_above : (rs : List Row) (numbers number n : ℕ) → AllByRecursion (λ r. r.number < numbers) rs → numbers ≤ number → found_by number_of rs (count_up number n) ≡ []
none_above rs numbers number zero below above = refl
none_above rs numbers number (suc n) below above =
    ap (λ (o : Option Row). add_found o (found_by number_of rs (count_up (number + 1) n))) (find_above rs numbers number below above)
    ∙ none_above rs numbers (number + 1) n below (omega arith)

few_found : (rs : List Row) (numbers number n : ℕ) → AllByRecursion (λ r. r.number < numbers) rs → length (found_by number_of rs (count_up number n)) + number ≤ max numbers number
few_found rs numbers number zero below = omega arith
few_found rs numbers number (suc n) below = by (find_by number_of number rs) (find_above rs numbers number below) (few_found rs numbers (number + 1) n below)
  where
    by : (o : Option Row) → (numbers ≤ number → o ≡ None) → length (found_by number_of rs (count_up (number + 1) n)) + (number + 1) ≤ max numbers (number + 1)
        → length (add_found o (found_by number_of rs (count_up (number + 1) n))) + number ≤ max numbers number
    by None above more = omega arith
    by (Some r) above more = elim (cases_lt number numbers) [
      | inl less ↦ omega arith
      | inr over ↦ let none = above over in absurd cc
    ]

-- no more rows are listed than there are numbers
pub few_rows : (h : HomeRows) (numbers : ℕ) → AllByRecursion (λ r. r.number < numbers) h.live → length (rows_of_home h) ≤ numbers
unfolding rows_of_home
few_rows h numbers below = let few = few_found h.live numbers 0 8 below in omega arith

-- one number further on
pub next_some : (rs : List Row) (number : ℕ) (r : Row) → number < 8 → find_by number_of number rs ≡ Some r → found_by number_of rs (rest_from number) ≡ r ∷ found_by number_of rs (rest_from (number + 1))
next_some rs number r less found =
    ap (found_by number_of rs) (rest_step number less) ∙ ap (λ (o : Option Row). add_found o (found_by number_of rs (rest_from (number + 1)))) found

pub next_none : (rs : List Row) (number : ℕ) → number < 8 → find_by number_of number rs ≡ None → found_by number_of rs (rest_from number) ≡ found_by number_of rs (rest_from (number + 1))
next_none rs number less found =
    ap (found_by number_of rs) (rest_step number less) ∙ ap (λ (o : Option Row). add_found o (found_by number_of rs (rest_from (number + 1)))) found

-- how far a search for the row at a place has come
pub record HasPassed (rs whole : List Row) (number place start : ℕ) : Type 0 where
  pub found : slice_get (found_by number_of rs (rest_from number)) place ≡ slice_get whole start
  pub passed : place + length whole ≡ start + length (found_by number_of rs (rest_from number))

pub begun : (h : HomeRows) (place : ℕ) → HasPassed h.live (rows_of_home h) 0 place place
unfolding rows_of_home
begun h place = record { found = refl; passed = refl }

slice_next : (r : Row) (rs : List Row) (place : ℕ) → place ≢ 0 → slice_get (r ∷ rs) place ≡ slice_get rs (place - 1)
slice_next r rs zero some = absurd (some refl)
slice_next r rs (suc place) some = ap (slice_get rs) (let e : place ≡ suc place - 1 = omega arith in e)

pub pass_some : (rs whole : List Row) (number place start : ℕ) (r : Row) → number < 8 → find_by number_of number rs ≡ Some r → place ≢ 0 → HasPassed rs whole number place start → HasPassed rs whole (number + 1) (place - 1) start
pass_some rs whole number place start r less found some has =
    let e = next_some rs number r less found in
    let rest = found_by number_of rs (rest_from (number + 1)) in
    let before = has.passed in
    let longer = ap (λ (qs : List Row). length qs) e in
    record {
      found = sym (slice_next r rest place some) ∙ ap (λ (qs : List Row). slice_get qs place) (sym e) ∙ has.found;
      passed = omega arith;
    }

pub pass_none : (rs whole : List Row) (number place start : ℕ) → number < 8 → find_by number_of number rs ≡ None → HasPassed rs whole number place start → HasPassed rs whole (number + 1) place start
pass_none rs whole number place start less found has =
    let e = next_none rs number less found in
    record {
      found = ap (λ (qs : List Row). slice_get qs place) (sym e) ∙ has.found;
      passed = has.passed ∙ ap (λ (qs : List Row). start + length qs) e;
    }

pub pass_here : (rs whole : List Row) (number place start : ℕ) (r : Row) → number < 8 → find_by number_of number rs ≡ Some r → place ≡ 0 → HasPassed rs whole number place start → Some r ≡ slice_get whole start
pass_here rs whole number place start r less found none has =
    ap (slice_get (r ∷ found_by number_of rs (rest_from (number + 1)))) (sym none)
    ∙ ap (λ (qs : List Row). slice_get qs place) (sym (next_some rs number r less found))
    ∙ has.found

-- and at its end
pub pass_end : (rs whole : List Row) (numbers number place start : ℕ) → AllByRecursion (λ r. r.number < numbers) rs → numbers ≤ number → HasPassed rs whole number place start → (◌≡◌ {A = Option Row} None (slice_get whole start)) × (place + length whole ≡ start)
pass_end rs whole numbers number place start below above has =
    let e = none_above rs numbers number (8 - number) below above in
    let before = has.passed in
    let none = ap (λ (qs : List Row). length qs) e in
    (ap (λ (qs : List Row). slice_get qs place) (sym e) ∙ has.found, omega arith)
