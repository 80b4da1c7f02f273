-- Homes that are counted at their last acceptance are those that have a sequence kept.
use Rattle.std.proofs.Common.{◌≡◌, ◌≢◌, ℕ, ◌+◌, ◌<◌, List, [], ◌∷◌, Bool, true, false, true≢false, length, refl, sym, ap, ◌∙◌, arith}
use Rattle.std.specs.Prelude.{Option, Some, None, is_some, not, ◌&&◌, ◌||◌, ◌==◌, if◌then◌else◌, fold}
use Rattle.std.specs.List.{list_any, AllByRecursion}
use Rattle.std.proofs.lemmas.Bool.{or_parts}
use Rattle.std.proofs.lemmas.Bool.Decides.{nat_tests}
use Rattle.mip_binding.specs.Acceptance.{Acceptance}
use Rattle.mip_binding.specs.Rows.{others_by, RisesBy, ApartBy}
use Rattle.mip_binding.specs.Homes.{HomeKept, home_step, kept_with}
use Rattle.mip_binding.specs.Held.{floor, sequence_in, homes_with_floor}
use Rattle.mip_binding.proofs.RowLaws.{apart-others}
use Rattle.mip_binding.proofs.HeldLaws.{homes-listed, homes-rise}
use Rattle.mip_afresh_bindings.specs.Counting.{any_of, is_counted}

-- how many homes are counted at one of these, behind which no other one comes
abbrev pub counted : List Acceptance → ℕ → List Acceptance → ℕ
counted xs now [] = 0
counted xs now (x ∷ more) = (if is_counted xs now x.home more then 1 else 0) + counted xs now more

abbrev among : ℕ → List ℕ → Bool
among h ys = list_any (λ y. y == h) ys

abbrev without : ℕ → List ℕ → List ℕ
without k ys = others_by (λ y. y) k ys

apart_ids : (ys : List ℕ) → RisesBy (λ y. y) ys → ApartBy (λ y. y) ys
apart_ids [] rises = tt
apart_ids (y ∷ ys) rises = (above ys rises.0, apart_ids ys rises.1)
  where
    above : (zs : List ℕ) → AllByRecursion (λ z. y < z) zs → AllByRecursion (λ z. z ≢ y) zs
    above [] all = tt
    above (z ∷ zs) all = (λ is. absurd (let less = all.0 in omega arith), above zs all.1)

among_without : (k h : ℕ) (ys : List ℕ) → (k == h) ≡ false → among h (without k ys) ≡ among h ys
among_without k h [] other = refl
among_without k h (y ∷ ys) other = grind (arith, nat_tests, other, among_without k h ys other)

gone : (k : ℕ) (ys : List ℕ) → among k (without k ys) ≡ false
gone k [] = refl
gone k (y ∷ ys) = grind (arith, nat_tests, gone k ys)

same_not : (k : ℕ) (ys : List ℕ) → among k ys ≡ false → without k ys ≡ ys
same_not k [] none = refl
same_not k (y ∷ ys) none = let parts = or_parts (y == k) (among k ys) none in grind (arith, nat_tests, parts.0, same_not k ys parts.1)

none_same : (y : ℕ) (ys : List ℕ) → AllByRecursion (λ z. z ≢ y) ys → among y ys ≡ false
none_same y [] all = refl
none_same y (z ∷ zs) all = let other = all.0 in grind (arith, nat_tests, other, none_same y zs all.1)

length_more : (k y : ℕ) (ys : List ℕ) → AllByRecursion (λ z. z ≢ y) ys → length ys ≡ (if among k ys then 1 else 0) + length (without k ys)
    → length (y ∷ ys) ≡ (if among k (y ∷ ys) then 1 else 0) + length (without k (y ∷ ys))
length_more k y ys others more = by (y == k) refl
  where
    by : (same : Bool) → (y == k) ≡ same → length (y ∷ ys) ≡ (if same || among k ys then 1 else 0) + length (if not same then y ∷ without k ys else without k ys)
    by true e =
        let is : y ≡ k = grind (arith, nat_tests) in
        let rest : among k ys ≡ false = ap (λ h. among h ys) (sym is) ∙ none_same y ys others in
        let left = ap (λ (zs : List ℕ). length zs) (same_not k ys rest) in
        omega (arith, left)
    by false e = omega (arith, more)

length_without : (k : ℕ) (ys : List ℕ) → ApartBy (λ y. y) ys → length ys ≡ (if among k ys then 1 else 0) + length (without k ys)
length_without k [] apart = refl
length_without k (y ∷ ys) apart = length_more k y ys apart.0 (length_without k ys apart.1)

-- a home that has a sequence kept was accepted
untouched : (home : ℕ) (kept : Option HomeKept) (xs : List Acceptance) → any_of home xs ≡ false → fold (home_step home) kept xs ≡ kept
untouched home kept [] none = refl
untouched home kept (x ∷ xs) none =
    let parts = or_parts (x.home == home) (any_of home xs) none in
    ap (λ b. fold (home_step home) (if b then Some (kept_with kept x) else kept) xs) parts.0 ∙ untouched home kept xs parts.1

accepted_once : (xs : List Acceptance) (home now : ℕ) → is_some (floor xs home now) ≡ true → any_of home xs ≡ true
unfolding floor
accepted_once xs home now kept = by (any_of home xs) refl
  where
    by : (b : Bool) → any_of home xs ≡ b → b ≡ true
    by true e = refl
    by false e = ap (λ o. is_some (sequence_in now o)) (sym (untouched home None xs e)) ∙ kept

-- the homes are among those of these acceptances, and those of the acceptances are among the homes where they have a sequence kept
record Counts (xs : List Acceptance) (now : ℕ) (more : List Acceptance) (ys : List ℕ) : Type 0 where
  apart : ApartBy (λ y. y) ys
  within : (h : ℕ) → among h ys ≡ true → any_of h more ≡ true
  agree : AllByRecursion (λ a. is_some (floor xs a.home now) ≡ among a.home ys) more

still_agree : (xs : List Acceptance) (now k : ℕ) (ys : List ℕ) (more : List Acceptance) → any_of k more ≡ false
    → AllByRecursion (λ a. is_some (floor xs a.home now) ≡ among a.home ys) more
    → AllByRecursion (λ a. is_some (floor xs a.home now) ≡ among a.home (without k ys)) more
still_agree xs now k ys [] none all = tt
still_agree xs now k ys (a ∷ more) none all =
    let parts = or_parts (a.home == k) (any_of k more) none in
    let other : (k == a.home) ≡ false = let e = parts.0 in grind (arith, nat_tests) in
    (all.0 ∙ sym (among_without k a.home ys other), still_agree xs now k ys more parts.1 all.1)

count_more : (xs : List Acceptance) (now : ℕ) (x : Acceptance) (more : List Acceptance) (ys : List ℕ)
    → ((zs : List ℕ) → Counts xs now more zs → counted xs now more ≡ length zs) → Counts xs now (x ∷ more) ys
    → counted xs now (x ∷ more) ≡ length ys
count_more xs now x more ys rest c = by (any_of x.home more) refl
  where
    by : (again : Bool) → any_of x.home more ≡ again → (if not again && is_some (floor xs x.home now) then 1 else 0) + counted xs now more ≡ length ys
    by true e = let same = rest ys (record { apart = c.apart; within = inside; agree = c.agree.1 }) in omega (arith, same)
      where
        inside : (h : ℕ) → among h ys ≡ true → any_of h more ≡ true
        inside h is = at (x.home == h) refl (c.within h is)
          where
            at : (same : Bool) → (x.home == h) ≡ same → (same || any_of h more) ≡ true → any_of h more ≡ true
            at true s found = let one : x.home ≡ h = grind (arith, nat_tests, s) in ap (λ k. any_of k more) (sym one) ∙ e
            at false s found = found
    by false e =
        let left = rest (without x.home ys) (record {
          apart = apart-others (λ y. y) x.home ys c.apart;
          within = inside;
          agree = still_agree xs now x.home ys more e c.agree.1;
        }) in
        let long = length_without x.home ys c.apart in
        let here = c.agree.0 in
        ap (λ b. (if b then 1 else 0) + counted xs now more) here
        ∙ ap (λ n. (if among x.home ys then 1 else 0) + n) left
        ∙ sym long
      where
        inside : (h : ℕ) → among h (without x.home ys) ≡ true → any_of h more ≡ true
        inside h is = at (x.home == h) refl
          where
            at : (same : Bool) → (x.home == h) ≡ same → any_of h more ≡ true
            at true s = let one : x.home ≡ h = grind (arith, nat_tests, s) in absurd (true≢false (sym is ∙ ap (λ k. among k (without x.home ys)) (sym one) ∙ gone x.home ys))
            at false s = ap (λ b. b || any_of h more) (sym s) ∙ c.within h (sym (among_without x.home h ys s) ∙ is)

count_all : (xs : List Acceptance) (now : ℕ) (more : List Acceptance) (ys : List ℕ) → Counts xs now more ys → counted xs now more ≡ length ys
count_all xs now [] [] c = refl
count_all xs now [] (y ∷ ys) c = absurd (let e : among y (y ∷ ys) ≡ true = grind (arith, nat_tests) in true≢false (sym (c.within y e)))
count_all xs now (x ∷ more) ys c = count_more xs now x more ys (count_all xs now more) c

pub counted_floors : (xs : List Acceptance) (now : ℕ) → counted xs now xs ≡ length (homes_with_floor xs now)
counted_floors xs now = count_all xs now xs (homes_with_floor xs now) (record {
  apart = apart_ids (homes_with_floor xs now) (homes-rise xs now);
  within = λ h is. accepted_once xs h now (sym (homes-listed xs h now) ∙ is);
  agree = each xs;
})
  where
    each : (more : List Acceptance) → AllByRecursion (λ a. is_some (floor xs a.home now) ≡ among a.home (homes_with_floor xs now)) more
    each [] = tt
    each (a ∷ more) = (sym (homes-listed xs a.home now), each more)
