-- The rows that are shown are those of each home that was accepted, in order.
use Rattle.std.proofs.Common.{◌≡◌, ℕ, zero, suc, ◌+◌, ◌-◌, ◌<◌, List, [], ◌∷◌, ◌++◌, Bool, true, false, refl, sym, ap, ◌∙◌, arith}
use Rattle.std.specs.Prelude.{Option, Some, None, map, fold, nat_lt, ◌==◌, if◌then◌else◌}
use Rattle.std.specs.List.{flat_map, AllByRecursion}
use Rattle.std.proofs.lemmas.Bool.Decides.{nat_tests}
use Rattle.mip_binding.specs.Acceptance.{Acceptance, Binding}
use Rattle.mip_binding.specs.Rows.{BindingRow, RisesBy, find_by, put_by, add_found, found_by}
use Rattle.mip_binding.specs.Homes.{HomeKept, home_key, number_key, kept_with, home_after, homes, kept_homes, shown_in, shown_home, shown_rows}
use Rattle.mip_binding.proofs.HomeLaws.{kept_with-home, rises-homes, home_after-homes}
use Rattle.mip_afresh_bindings.specs.Showing.{homes_of, rows_under, rows_of}

-- the keys of rows, behind one that was put
keys-put : {X : Type 0} (key : X → ℕ) (x : X) (xs : List X) → map key (put_by key x xs) ≡ put_by (λ k. k) (key x) (map key xs)
keys-put key x [] = refl
keys-put {X = X} key x (y ∷ ys) = by (key y == key x) (nat_lt (key x) (key y)) (keys-put key x ys)
  where
    by : (same less : Bool) → map key (put_by key x ys) ≡ put_by (λ k. k) (key x) (map key ys)
        → map key (if same then x ∷ ys else (if less then x ∷ y ∷ ys else y ∷ put_by key x ys))
        ≡ (if same then key x ∷ map key ys else (if less then key x ∷ key y ∷ map key ys else key y ∷ put_by (λ k. k) (key x) (map key ys)))
    by true less more = refl
    by false true more = refl
    by false false more = ap (λ (ks : List ℕ). key y ∷ ks) more

-- the homes of acceptances are those that are remembered
abbrev put_home : List ℕ → Acceptance → List ℕ
put_home hs a = put_by (λ h. h) a.home hs

abbrev put_kept : List HomeKept → Acceptance → List HomeKept
put_kept kept a = put_by home_key (kept_with (find_by home_key a.home kept) a) kept

homes_on : (kept : List HomeKept) (xs : List Acceptance) → fold put_home (map home_key kept) xs ≡ map home_key (fold put_kept kept xs)
homes_on kept [] = refl
homes_on kept (x ∷ xs) =
    let next = kept_with (find_by home_key x.home kept) x in
    ap (λ (hs : List ℕ). fold put_home hs xs)
    (sym (keys-put home_key next kept ∙ ap (λ (h : ℕ). put_by (λ k. k) h (map home_key kept)) (kept_with-home (find_by home_key x.home kept) x)))
    ∙ homes_on (put_kept kept x) xs

homes_of-homes : (xs : List Acceptance) → homes_of xs ≡ map home_key (homes xs)
unfolding homes
homes_of-homes xs = homes_on [] xs

-- each of these is found by its home
found_behind : {X : Type 0} (key : X → ℕ) (x : X) (xs ys : List X) → AllByRecursion (λ y. key x < key y) ys → AllByRecursion (λ y. find_by key (key y) xs ≡ Some y) ys
    → AllByRecursion (λ y. find_by key (key y) (x ∷ xs) ≡ Some y) ys
found_behind key x xs [] above found = tt
found_behind key x xs (y ∷ ys) above found =
    let less = above.0 in
    let here = found.0 in
    (grind (arith, nat_tests, less, here), found_behind key x xs ys above.1 found.1)

each_found : {X : Type 0} (key : X → ℕ) (xs : List X) → RisesBy key xs → AllByRecursion (λ x. find_by key (key x) xs ≡ Some x) xs
each_found key [] rises = tt
each_found key (x ∷ xs) rises = (grind (arith, nat_tests), found_behind key x xs xs rises.0 (each_found key xs rises.1))

each_kept : (xs : List Acceptance) (kept : List HomeKept) → AllByRecursion (λ k. find_by home_key k.home (homes xs) ≡ Some k) kept → AllByRecursion (λ k. home_after k.home xs ≡ Some k) kept
each_kept xs [] all = tt
each_kept xs (k ∷ kept) all = (home_after-homes xs k.home ∙ all.0, each_kept xs kept all.1)

-- so the rows of all homes are those of one after another
rows_each : (xs : List Acceptance) (now : ℕ) (kept : List HomeKept) → AllByRecursion (λ k. home_after k.home xs ≡ Some k) kept
    → flat_map shown_home (kept_homes now kept) ≡ flat_map (λ h. rows_of now (home_after h xs)) (map home_key kept)
rows_each xs now [] all = refl
rows_each xs now (k ∷ kept) all =
    by (nat_lt now k.until)
    ∙ ap (λ (rows : List BindingRow). rows_of now (Some k) ++ rows) (rows_each xs now kept all.1)
    ∙ ap (λ (o : Option HomeKept). rows_of now o ++ flat_map (λ h. rows_of now (home_after h xs)) (map home_key kept)) (sym all.0)
  where
    by : (b : Bool) → flat_map shown_home (if b then k ∷ kept_homes now kept else kept_homes now kept) ≡ (if b then shown_home k else []) ++ flat_map shown_home (kept_homes now kept)
    by true = refl
    by false = refl

pub shown_each : (xs : List Acceptance) (now : ℕ) → shown_rows xs now ≡ flat_map (λ h. rows_of now (home_after h xs)) (homes_of xs)
shown_each xs now =
    rows_each xs now (homes xs) (each_kept xs (homes xs) (each_found home_key (homes xs) (rises-homes xs)))
    ∙ ap (λ (hs : List ℕ). flat_map (λ h. rows_of now (home_after h xs)) hs) (sym (homes_of-homes xs))

-- so many numbers from one on
abbrev pub numbers_from : (left number : ℕ) → List ℕ
numbers_from zero number = []
numbers_from (suc left) number = number ∷ numbers_from left (number + 1)

-- the rows of a home under the numbers from one on
abbrev pub rows_from : HomeKept → ℕ → List BindingRow
rows_from kept number = map (shown_in kept) (found_by number_key kept.live (numbers_from (8 - number) number))

pub rows_all : (kept : HomeKept) → rows_from kept 0 ≡ shown_home kept
unfolding shown_home
rows_all kept = refl

pub rows_next : (kept : HomeKept) (number : ℕ) → number < 8 → rows_from kept number ≡ rows_under kept number ++ rows_from kept (number + 1)
rows_next kept number less =
    ap (λ (left : ℕ). map (shown_in kept) (found_by number_key kept.live (numbers_from left number))) (let e : 8 - number ≡ suc (8 - (number + 1)) = omega arith in e)
    ∙ by (find_by number_key number kept.live)
  where
    by : (o : Option Binding) → map (shown_in kept) (add_found o (found_by number_key kept.live (numbers_from (8 - (number + 1)) (number + 1)))) ≡ map (shown_in kept) (add_found o []) ++ rows_from kept (number + 1)
    by None = refl
    by (Some b) = refl
