-- What is known of the rows of one home.
use Rattle.std.proofs.Common.{◌≡◌, ◌≢◌, ℕ, zero, suc, ◌+◌, ◌<◌, ◌≤◌, max, List, [], ◌∷◌, ◌++◌, Bool, true, false, length, map, take, drop, get_or, set, refl, sym, ap, subst, ◌∙◌, arith, drop_of_length-le}
use Rattle.std.specs.Prelude.{Option, Some, None, not, ◌==◌, if◌then◌else◌}
use Rattle.std.specs.List.{AllByRecursion}
use Rattle.std.proofs.lemmas.Bool.Decides.{nat_tests}
use Rattle.mip_words.specs.Last.{or_else, last_where}
use Rattle.mip_words.proofs.LastLaws.{last_where-push}
use Rattle.mip_binding.specs.Rows.{ApartBy, others_by}
use Rattle.mip_binding.proofs.RowLaws.{apart-others}
use Rattle.mip_bcache.specs.declared.row.Row.{Row}
use Rattle.mip_bcache.specs.Seen.{number_of, latest, until_set}

-- the latest end, taken row by row
latest_max : (end moment : ℕ) (rs : List Row) → latest (max moment end) rs ≡ max end (latest moment rs)
latest_max end moment [] = omega arith
latest_max end moment (r ∷ rs) = let more = latest_max end moment rs in omega arith

pub latest_step : (moment : ℕ) (r : Row) (rs : List Row) → latest (max moment r.end.0) rs ≡ latest moment (r ∷ rs)
latest_step moment r rs = latest_max r.end.0 moment rs

-- the rows of other numbers
pub others_push : (number : ℕ) (rs : List Row) (r : Row) → others_by number_of number (rs ++ r ∷ []) ≡ (if r.number == number then others_by number_of number rs else others_by number_of number rs ++ r ∷ [])
others_push number [] r = by (r.number == number)
  where
    by : (b : Bool) → (if not b then r ∷ [] else []) ≡ (if b then [] else r ∷ [])
    by true = refl
    by false = refl
others_push number (q ∷ qs) r =
    ap (λ (rs : List Row). if not (q.number == number) then q ∷ rs else rs) (others_push number qs r) ∙ by (q.number == number) (r.number == number)
  where
    by : (a b : Bool) → (if not a then q ∷ (if b then others_by number_of number qs else others_by number_of number qs ++ r ∷ []) else (if b then others_by number_of number qs else others_by number_of number qs ++ r ∷ []))
        ≡ (if b then (if not a then q ∷ others_by number_of number qs else others_by number_of number qs) else (if not a then q ∷ others_by number_of number qs else others_by number_of number qs) ++ r ∷ [])
    by true true = refl
    by true false = refl
    by false true = refl
    by false false = refl

-- one row of a number at most
one_less : (number : ℕ) (rs : List Row) → ApartBy number_of rs → length rs ≤ 1 + length (others_by number_of number rs)
one_less number [] apart = omega arith
one_less number (r ∷ rs) apart = by (r.number == number) refl (one_less number rs apart.1)
  where
    all_others : (k : ℕ) (qs : List Row) → AllByRecursion (λ q. q.number ≢ k) qs → length qs ≤ length (others_by number_of k qs)
    all_others k [] others = omega arith
    all_others k (q ∷ qs) others =
        let more = all_others k qs others.1 in
        let other = others.0 in
        grind (arith, nat_tests)

    by : (same : Bool) → (r.number == number) ≡ same → length rs ≤ 1 + length (others_by number_of number rs)
        → length (r ∷ rs) ≤ 1 + length (if not same then r ∷ others_by number_of number rs else others_by number_of number rs)
    by true e more =
        let same : r.number ≡ number = grind (arith, nat_tests) in
        let all = all_others number rs (subst (λ (k : ℕ). AllByRecursion (λ (q : Row). q.number ≢ k) rs) same apart.0) in
        omega arith
    by false e more = omega arith

lower : (n : ℕ) (rs : List Row) → AllByRecursion (λ r. r.number < suc n) rs → AllByRecursion (λ r. r.number < n) (others_by number_of n rs)
lower n [] below = tt
lower n (r ∷ rs) below = by (r.number == n) refl (lower n rs below.1)
  where
    by : (same : Bool) → (r.number == n) ≡ same → AllByRecursion (λ q. q.number < n) (others_by number_of n rs) → AllByRecursion (λ q. q.number < n) (if not same then r ∷ others_by number_of n rs else others_by number_of n rs)
    by true e more = more
    by false e more = let first = below.0 in (grind (arith, nat_tests), more)

-- rows under different numbers are no more than there are numbers
pub as_many_numbers : (n : ℕ) (rs : List Row) → ApartBy number_of rs → AllByRecursion (λ r. r.number < n) rs → length rs ≤ n
as_many_numbers zero [] apart below = omega arith
as_many_numbers zero (r ∷ rs) apart below = let none = below.0 in absurd (omega arith)
as_many_numbers (suc n) rs apart below =
    let fewer = as_many_numbers n (others_by number_of n rs) (apart-others number_of n rs apart) (lower n rs below) in
    let one = one_less n rs apart in
    omega arith

-- the last that passes, taken row by row
pub last_step : (p : Row → Bool) (r : Row) (rs : List Row) (found : Option Row) → or_else (last_where p (r ∷ rs)) found ≡ or_else (last_where p rs) (if p r then Some r else found)
last_step p r rs found = by (last_where p rs) (p r)
  where
    by : (o : Option Row) (b : Bool) → or_else (or_else o (if b then Some r else None)) found ≡ or_else o (if b then Some r else found)
    by (Some q) b = refl
    by None true = refl
    by None false = refl

pub none_found : (o : Option Row) → or_else o None ≡ o
none_found None = refl
none_found (Some r) = refl

-- one row more of a list is kept to a moment in its place
pub kept_more : (until : ℕ) (rs : List Row) (i : ℕ) (d : Row) → i < length rs → set (map (until_set until) (take i rs) ++ drop i rs) i (until_set until (get_or rs i d)) ≡ map (until_set until) (take (i + 1) rs) ++ drop (i + 1) rs
kept_more until [] i d inside = absurd (omega arith)
kept_more until (r ∷ rs) zero d inside = refl
kept_more until (r ∷ rs) (suc i) d inside =
    let e : suc i + 1 ≡ suc (i + 1) = omega arith in
    ap (λ (l : List Row). until_set until r ∷ l) (kept_more until rs i d (omega arith)) ∙ ap (λ n. map (until_set until) (take n (r ∷ rs)) ++ drop n (r ∷ rs)) (sym e)

ahead : (until : ℕ) (rs : List Row) (i : ℕ) (d : Row) → i < length rs → get_or (map (until_set until) (take i rs) ++ drop i rs) i d ≡ get_or rs i d
ahead until [] i d inside = absurd (omega arith)
ahead until (r ∷ rs) zero d inside = refl
ahead until (r ∷ rs) (suc i) d inside = ahead until rs i d (omega arith)

pub kept_on : (until : ℕ) (rs qs : List Row) (i : ℕ) (d : Row) → i < length rs → qs ≡ map (until_set until) (take i rs) ++ drop i rs → set qs i (until_set until (get_or qs i d)) ≡ map (until_set until) (take (i + 1) rs) ++ drop (i + 1) rs
kept_on until rs qs i d inside e =
    ap (λ (l : List Row). set l i (until_set until (get_or l i d))) e
    ∙ ap (λ (r : Row). set (map (until_set until) (take i rs) ++ drop i rs) i (until_set until r)) (ahead until rs i d inside)
    ∙ kept_more until rs i d inside

-- a row of noughts, for places past the end
abbrev pub blank : Row
blank = record {
  home = record { 0 = 0 };
  number = 0;
  careof = record { 0 = 0 };
  sequence = 0;
  end = record { 0 = 0 };
  kept_until = record { 0 = 0 };
  home_nonce = 0;
  careof_nonce = None;
}

-- the last row passes, or another one does that was found among the others
pub last_is : (p : Row → Bool) (rs : List Row) (r : Row) → p r ≡ true → Some r ≡ last_where p (rs ++ r ∷ [])
last_is p rs r passes = ap (λ (b : Bool). if b then Some r else last_where p rs) (sym passes) ∙ sym (last_where-push p rs r)

pub last_not : (p : Row → Bool) (rs : List Row) (r : Row) (i : ℕ) (found : Option Row) → p r ≡ false → length rs ≤ i → or_else (last_where p (drop i rs)) found ≡ last_where p rs → found ≡ last_where p (rs ++ r ∷ [])
last_not p rs r i found fails past e =
    ap (λ (qs : List Row). or_else (last_where p qs) found) (sym (drop_of_length-le rs past))
    ∙ e
    ∙ ap (λ (b : Bool). if b then Some r else last_where p rs) (sym fails)
    ∙ sym (last_where-push p rs r)

pub drop_at : {X : Type 0} (xs : List X) (i : ℕ) (d : X) → i < length xs → drop i xs ≡ get_or xs i d ∷ drop (i + 1) xs
drop_at [] i d inside = absurd (omega arith)
drop_at (x ∷ xs) zero d inside = refl
drop_at {X = X} (x ∷ xs) (suc i) d inside =
    let e : suc i + 1 ≡ suc (i + 1) = omega arith in
    drop_at xs i d (omega arith) ∙ ap (λ (n : ℕ). get_or xs i d ∷ drop n (x ∷ xs)) (sym e)

pub latest_on : (rs : List Row) (i late moment : ℕ) → i < length rs → latest late (drop i rs) ≡ latest moment rs → latest (max late (get_or rs i blank).end.0) (drop (i + 1) rs) ≡ latest moment rs
latest_on rs i late moment inside e =
    latest_step late (get_or rs i blank) (drop (i + 1) rs) ∙ ap (latest late) (sym (drop_at rs i blank inside)) ∙ e
