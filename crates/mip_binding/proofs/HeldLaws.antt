-- What is known of the care-of addresses that are held for a home, and of its sequence.
use Rattle.std.proofs.Common.{◌≡◌, ◌≢◌, ℕ, ◌<◌, ◌≤◌, List, [], ◌∷◌, ◌++◌, Bool, true, false, refl, sym, ap, ◌∙◌, arith}
use Rattle.std.specs.Prelude.{Option, Some, None, option_map, is_some, ◌||◌, nat_lt, ◌==◌, if◌then◌else◌}
use Rattle.std.specs.List.{list_any, AllByRecursion}
use Rattle.std.proofs.lemmas.Bool.Decides.{nat_tests}
use Rattle.mip_words.specs.Last.{or_else, last_where}
use Rattle.mip_words.specs.LastLaws.{StandsLast}
use Rattle.mip_words.proofs.LastLaws.{last_where-push, last_where-none, last_where-found, all-last}
use Rattle.mip_binding.specs.Acceptance.{Acceptance, Binding, binding_of, is_deletion}
use Rattle.mip_binding.specs.AcceptanceLaws.{kept_until_of}
use Rattle.mip_binding.specs.Rows.{RisesBy, ApartBy, find_by}
use Rattle.mip_binding.specs.Homes.{HomeKept, home_key, until_key, number_key, kept_with, home_after, homes, kept_homes}
use Rattle.mip_binding.specs.Held.{is_standing, stands_under, stands_at, careof_where, sequence_in, any_lives, held, held_under, holds, floor, homes_with_floor}
use Rattle.mip_binding.specs.HeldLaws.{HeldUnder, HeldFrom, FloorFrom, LivesIn}
use Rattle.mip_binding.proofs.RowLaws.{find-kept, if_kept, find-keys, rises-kept, rises-map}
use Rattle.mip_binding.proofs.HomeLaws.{IsWellIf, left_by, kept_with-left, kept_with-sequence, kept_with-lasts, home_after-push, home_after-homes, home_after-sequence, home_after-well, rises-homes}
use Rattle.mip_binding.proofs.LifeLaws.{all-live, AllLive, IsLast, live-last, last-stricter}

-- the sequence that is kept for a home is that of the home that is found
pub floor-homes : (xs : List Acceptance) (home now : ℕ) → floor xs home now ≡ option_map (λ k. k.sequence) (find_by home_key home (kept_homes now (homes xs)))
unfolding floor
floor-homes xs home now =
    ap (sequence_in now) (home_after-homes xs home)
    ∙ by (find_by home_key home (homes xs))
    ∙ sym (ap (option_map (λ (k : HomeKept). k.sequence)) (find-kept home_key until_key now home (homes xs) (rises-homes xs)))
  where
    by : (o : Option HomeKept) → sequence_in now o ≡ option_map (λ k. k.sequence) (if_kept until_key now o)
    by None = refl
    by (Some k) = grind (arith, nat_tests)

-- the homes listed are those that have a sequence kept, each once
pub homes-listed : (xs : List Acceptance) (home now : ℕ) → list_any (λ h. h == home) (homes_with_floor xs now) ≡ is_some (floor xs home now)
homes-listed xs home now =
    find-keys home_key home (kept_homes now (homes xs))
    ∙ by (find_by home_key home (kept_homes now (homes xs)))
    ∙ sym (ap (λ (o : Option ℕ). is_some o) (floor-homes xs home now))
  where
    by : (o : Option HomeKept) → is_some o ≡ is_some (option_map (λ (k : HomeKept). k.sequence) o)
    by None = refl
    by (Some k) = refl

pub homes-rise : (xs : List Acceptance) (now : ℕ) → RisesBy (λ h. h) (homes_with_floor xs now)
homes-rise xs now = rises-map home_key (λ (h : ℕ). h) (kept_homes now (homes xs)) (rises-kept home_key until_key now (homes xs) (rises-homes xs))

-- a binding that stands has its home's sequence kept
any-ends : (p : Binding → Bool) (now until : ℕ) → ((b : Binding) → p b ≡ true → now < b.end) → (bs : List Binding) → AllByRecursion (λ b. b.end ≤ until) bs → list_any p bs ≡ true → now < until
any-ends p now until ahead [] ends any = absurd cc
any-ends p now until ahead (b ∷ bs) ends any = by (p b) refl (any-ends p now until ahead bs ends.1) any
  where
    by : (passes : Bool) → p b ≡ passes → (list_any p bs ≡ true → now < until) → (passes || list_any p bs) ≡ true → now < until
    by true e more any = let less = ahead b e in let within = ends.0 in omega arith
    by false e more any = more any

pub holds_has_floor : (xs : List Acceptance) (home now careof : ℕ) → holds xs home now careof ≡ true → is_some (floor xs home now) ≡ true
unfolding holds floor
holds_has_floor xs home now careof any = by (home_after home xs) (home_after-well xs home) any
  where
    ahead : (b : Binding) → stands_at home now careof b ≡ true → now < b.end
    ahead b e = grind (arith, nat_tests)

    by : (o : Option HomeKept) → IsWellIf o → any_lives (stands_at home now careof) o ≡ true → is_some (sequence_in now o) ≡ true
    by None well any = absurd cc
    by (Some k) well any =
        let less = any-ends (stands_at home now careof) now k.until ahead k.live well.ends any in
        grind (arith, nat_tests)

-- the last that passes one test passes another
any-last : {X : Type 0} (p q : X → Bool) (xs : List X) (x : X) → last_where p xs ≡ Some x → q x ≡ true → list_any q xs ≡ true
any-last p q [] x e passes = absurd cc
any-last {X = X} p q (y ∷ ys) x e passes = by (last_where p ys) refl (p y) (any-last p q ys x) e
  where
    by : (o : Option X) → last_where p ys ≡ o → (b : Bool) → (last_where p ys ≡ Some x → q x ≡ true → list_any q ys ≡ true) → or_else o (if b then Some y else None) ≡ Some x → (q y || list_any q ys) ≡ true
    by (Some z) is b more e = let found = more (is ∙ e) passes in grind (arith, found)
    by None is true more e = let same : y ≡ x = cc in let here = ap q same ∙ passes in grind (arith, here)
    by None is false more e = absurd cc

-- what one test finds, at its care-of address
module _ (home now : ℕ) (p : Binding → Bool) (stands : (b : Binding) → p b ≡ true → is_standing home now b ≡ true) where
  found_at : (o : Option HomeKept) (careof : ℕ) → careof_where p o ≡ Some careof → any_lives (stands_at home now careof) o ≡ true
  found_at None careof e = absurd cc
  found_at (Some k) careof e = by (last_where p k.live) refl e
    where
      by : (o : Option Binding) → last_where p k.live ≡ o → option_map (λ b. b.careof) o ≡ Some careof → list_any (stands_at home now careof) k.live ≡ true
      by None is e = absurd cc
      by (Some b) is e =
          let passes = (last_where-found p k.live b is).passes in
          let standing = stands b passes in
          let here : stands_at home now careof b ≡ true = grind (arith, nat_tests) in
          any-last p (stands_at home now careof) k.live b is here

  from_live : (xs : List Acceptance) (careof : ℕ) → careof_where p (home_after home xs) ≡ Some careof → (f : HeldFrom xs home now careof) × (p f.binding ≡ true)
  from_live xs careof e = by (home_after home xs) (all-live xs home) e
    where
      of_binding : (bs : List Binding) → AllByRecursion (LivesIn xs home) bs → (o : Option Binding) → last_where p bs ≡ o → option_map (λ b. b.careof) o ≡ Some careof → (f : HeldFrom xs home now careof) × (p f.binding ≡ true)
      of_binding bs lives None is e = absurd cc
      of_binding bs lives (Some b) is e =
          let passes = (last_where-found p bs b is).passes in
          let standing = stands b passes in
          let at : b.careof ≡ careof = cc in (
            record {
              binding = b;
              lives = all-last p (LivesIn xs home) bs b lives is;
              of_careof = at;
              away = grind (arith, nat_tests);
              in_time = grind (arith, nat_tests);
            },
            passes,
          )

      by : (o : Option HomeKept) → AllLive xs home o → careof_where p o ≡ Some careof → (f : HeldFrom xs home now careof) × (p f.binding ≡ true)
      by None lives e = absurd cc
      by (Some k) lives e = of_binding k.live lives (last_where p k.live) refl e

under-stands : (home number now : ℕ) (b : Binding) → stands_under home number now b ≡ true → is_standing home now b ≡ true
under-stands home number now b e = grind (arith, nat_tests)

pub held_was_accepted : (xs : List Acceptance) (home now careof : ℕ) → held xs home now ≡ Some careof → HeldFrom xs home now careof
unfolding held
held_was_accepted xs home now careof e = (from_live home now (is_standing home now) (λ b standing. standing) xs careof e).0

pub under_was_accepted : (xs : List Acceptance) (home number now careof : ℕ) → held_under xs home number now ≡ Some careof → HeldUnder xs home number now careof
unfolding held_under
under_was_accepted xs home number now careof e =
    let found = from_live home now (stands_under home number now) (under-stands home number now) xs careof e in
    let passes = found.1 in
    record { from = found.0; of_number = grind (arith, nat_tests) }

pub held_is_one : (xs : List Acceptance) (home now careof : ℕ) → held xs home now ≡ Some careof → holds xs home now careof ≡ true
unfolding held holds
held_is_one xs home now careof e = found_at home now (is_standing home now) (λ b standing. standing) (home_after home xs) careof e

pub under_is_one : (xs : List Acceptance) (home number now careof : ℕ) → held_under xs home number now ≡ Some careof → holds xs home now careof ≡ true
unfolding held_under holds
under_is_one xs home number now careof e = found_at home now (stands_under home number now) (under-stands home number now) (home_after home xs) careof e

-- a home that holds a care-of address has a sequence kept
pub held_has_floor : (xs : List Acceptance) (home now careof : ℕ) → held xs home now ≡ Some careof → is_some (floor xs home now) ≡ true
held_has_floor xs home now careof e = holds_has_floor xs home now careof (held_is_one xs home now careof e)

-- bindings of other numbers hold nothing under this one
none_under : (home number now : ℕ) (bs : List Binding) → AllByRecursion (λ b. b.number ≢ number) bs → last_where (stands_under home number now) bs ≡ None
none_under home number now [] others = refl
none_under home number now (b ∷ bs) others =
    let other = others.0 in
    let no : stands_under home number now b ≡ false = grind (arith, nat_tests) in
    ap (λ (o : Option Binding). or_else o (if stands_under home number now b then Some b else None)) (none_under home number now bs others.1)
    ∙ ap (λ (passes : Bool). or_else None (if passes then Some b else None)) no

some_number : (home now careof : ℕ) (bs : List Binding) → ApartBy number_key bs → list_any (stands_at home now careof) bs ≡ true
    → (number : ℕ) × (option_map (λ b. b.careof) (last_where (stands_under home number now) bs) ≡ Some careof)
some_number home now careof [] apart any = absurd cc
some_number home now careof (b ∷ bs) apart any = by (list_any (stands_at home now careof) bs) refl (some_number home now careof bs apart.1)
  where
    stays : (o : Option Binding) (r : Option Binding) → option_map (λ c. c.careof) o ≡ Some careof → option_map (λ c. c.careof) (or_else o r) ≡ Some careof
    stays None r e = absurd cc
    stays (Some c) r e = e

    by : (more : Bool) → list_any (stands_at home now careof) bs ≡ more → (list_any (stands_at home now careof) bs ≡ true → (number : ℕ) × (option_map (λ c. c.careof) (last_where (stands_under home number now) bs) ≡ Some careof))
        → (number : ℕ) × (option_map (λ c. c.careof) (last_where (stands_under home number now) (b ∷ bs)) ≡ Some careof)
    by true is rest =
        let found = rest is in
        (found.0, stays (last_where (stands_under home found.0 now) bs) (if stands_under home found.0 now b then Some b else None) found.1)
    by false is rest =
        let here : stands_at home now careof b ≡ true = grind (arith, any, is) in
        let under : stands_under home b.number now b ≡ true = grind (arith, nat_tests) in
        let at : b.careof ≡ careof = grind (arith, nat_tests) in (
          b.number,
          ap (λ (o : Option Binding). option_map (λ (c : Binding). c.careof) (or_else o (if stands_under home b.number now b then Some b else None))) (none_under home b.number now bs apart.0)
              ∙ ap (λ (passes : Bool). option_map (λ (c : Binding). c.careof) (or_else None (if passes then Some b else None))) under
              ∙ ap (λ (n : ℕ). Some n) at,
        )

pub holds_some : (xs : List Acceptance) (home now careof : ℕ) → holds xs home now careof ≡ true → (number : ℕ) × (held_under xs home number now ≡ Some careof)
unfolding held_under holds
holds_some xs home now careof any = by (home_after home xs) (home_after-well xs home) any
  where
    by : (o : Option HomeKept) → IsWellIf o → any_lives (stands_at home now careof) o ≡ true → (number : ℕ) × (careof_where (stands_under home number now) o ≡ Some careof)
    by None well any = absurd cc
    by (Some k) well any = some_number home now careof k.live well.apart any

-- a sequence that is kept was accepted
pub floor_was_accepted : (xs : List Acceptance) (home now sequence : ℕ) → floor xs home now ≡ Some sequence → FloorFrom xs home sequence
unfolding floor
floor_was_accepted xs home now sequence e =
    by (last_where (λ (a : Acceptance). a.home == home) xs) (λ x. last_where-found (λ (a : Acceptance). a.home == home) xs x)
    (sym (home_after-sequence xs home) ∙ of_last (home_after home xs) e)
  where
    of_last : (o : Option HomeKept) → sequence_in now o ≡ Some sequence → option_map (λ k. k.sequence) o ≡ Some sequence
    of_last None e = absurd cc
    of_last (Some k) e = grind (arith, nat_tests)

    by : (o : Option Acceptance) → ((x : Acceptance) → o ≡ Some x → StandsLast (λ a. a.home == home) xs x) → option_map (λ a. a.sequence) o ≡ Some sequence → FloorFrom xs home sequence
    by None found h = absurd cc
    by (Some x) found h =
        let s = found x refl in
        record {
          acceptance = x;
          before = s.before;
          after = s.after;
          whole = s.whole;
          of_home = grind (arith, nat_tests, s.passes);
          of_sequence = grind (arith, nat_tests);
          last = s.none_after;
        }

-- one more acceptance
after-same : (xs : List Acceptance) (x : Acceptance) → home_after x.home (xs ++ x ∷ []) ≡ Some (kept_with (home_after x.home xs) x)
after-same xs x = home_after-push xs x x.home ∙ grind (arith, nat_tests)

after-other : (xs : List Acceptance) (x : Acceptance) (home : ℕ) → x.home ≢ home → home_after home (xs ++ x ∷ []) ≡ home_after home xs
after-other xs x home other = home_after-push xs x home ∙ grind (arith, nat_tests)

live-after : (o : Option HomeKept) (x : Acceptance) → (kept_with o x).live ≡ left_by o x ++ binding_of x ∷ []
live-after o x = ap (λ (k : HomeKept). k.live) (kept_with-left o x)

pub held-binds : (xs : List Acceptance) (x : Acceptance) (now : ℕ) → x.careof ≢ x.home → now < x.end → held (xs ++ x ∷ []) x.home now ≡ Some x.careof
unfolding held
held-binds xs x now away ahead =
    let p = is_standing x.home now in
    let stands : is_standing x.home now (binding_of x) ≡ true = grind (arith, nat_tests) in
    let left = left_by (home_after x.home xs) x in
    ap (careof_where p) (after-same xs x)
    ∙ ap (λ (bs : List Binding). option_map (λ (b : Binding). b.careof) (last_where p bs)) (live-after (home_after x.home xs) x)
    ∙ ap (option_map (λ (b : Binding). b.careof)) (last_where-push p left (binding_of x))
    ∙ ap (λ (b : Bool). option_map (λ (c : Binding). c.careof) (if b then Some (binding_of x) else last_where p left)) stands

-- a deletion leaves no binding but its own
deletion-left : (o : Option HomeKept) (x : Acceptance) → x.careof ≡ x.home → left_by o x ≡ []
deletion-left None x home = refl
deletion-left (Some k) x home = let deletes : is_deletion x ≡ true = grind (arith, nat_tests) in grind (arith, nat_tests)

live-deleted : (xs : List Acceptance) (x : Acceptance) → x.careof ≡ x.home → (kept_with (home_after x.home xs) x).live ≡ binding_of x ∷ []
live-deleted xs x home = live-after (home_after x.home xs) x ∙ ap (λ (bs : List Binding). bs ++ binding_of x ∷ []) (deletion-left (home_after x.home xs) x home)

pub held-deletes : (xs : List Acceptance) (x : Acceptance) (now : ℕ) → x.careof ≡ x.home → held (xs ++ x ∷ []) x.home now ≡ None
unfolding held
held-deletes xs x now home =
    ap (careof_where (is_standing x.home now)) (after-same xs x)
    ∙ ap (λ (bs : List Binding). option_map (λ (b : Binding). b.careof) (last_where (is_standing x.home now) bs)) (live-deleted xs x home)
    ∙ grind (arith, nat_tests)

pub holds-ends : (xs : List Acceptance) (x : Acceptance) (now careof : ℕ) → x.careof ≡ x.home → holds (xs ++ x ∷ []) x.home now careof ≡ false
unfolding holds
holds-ends xs x now careof home =
    ap (any_lives (stands_at x.home now careof)) (after-same xs x)
    ∙ ap (list_any (stands_at x.home now careof)) (live-deleted xs x home)
    ∙ grind (arith, nat_tests)

pub floor-stands : (xs : List Acceptance) (x : Acceptance) (now : ℕ) → now < kept_until_of x → floor (xs ++ x ∷ []) x.home now ≡ Some x.sequence
unfolding floor
floor-stands xs x now ahead =
    let lasts = kept_with-lasts (home_after x.home xs) x in
    let same = kept_with-sequence (home_after x.home xs) x in
    let kept : nat_lt now (kept_with (home_after x.home xs) x).until ≡ true = grind (arith, nat_tests) in
    ap (sequence_in now) (after-same xs x)
    ∙ ap (λ (b : Bool). if b then Some (kept_with (home_after x.home xs) x).sequence else None) kept
    ∙ ap (λ (n : ℕ). Some n) same

pub held-other : (xs : List Acceptance) (x : Acceptance) (home now : ℕ) → x.home ≢ home → held (xs ++ x ∷ []) home now ≡ held xs home now
unfolding held
held-other xs x home now other = ap (careof_where (is_standing home now)) (after-other xs x home other)

pub under-other : (xs : List Acceptance) (x : Acceptance) (home number now : ℕ) → x.home ≢ home → held_under (xs ++ x ∷ []) home number now ≡ held_under xs home number now
unfolding held_under
under-other xs x home number now other = ap (careof_where (stands_under home number now)) (after-other xs x home other)

pub holds-other : (xs : List Acceptance) (x : Acceptance) (home now careof : ℕ) → x.home ≢ home → holds (xs ++ x ∷ []) home now careof ≡ holds xs home now careof
unfolding holds
holds-other xs x home now careof other = ap (any_lives (stands_at home now careof)) (after-other xs x home other)

pub floor-other : (xs : List Acceptance) (x : Acceptance) (home now : ℕ) → x.home ≢ home → floor (xs ++ x ∷ []) home now ≡ floor xs home now
unfolding floor
floor-other xs x home now other = ap (sequence_in now) (after-other xs x home other)

-- after no acceptance
pub held-none : (home now : ℕ) → held [] home now ≡ None
unfolding held
held-none home now = refl

pub floor-none : (home now : ℕ) → floor [] home now ≡ None
unfolding floor
floor-none home now = refl

pub holds-none : (home now careof : ℕ) → holds [] home now careof ≡ false
unfolding holds
holds-none home now careof = refl

-- a binding that lives is held under its number until its end
pub living-held : (xs : List Acceptance) (home now : ℕ) (b : Binding) → LivesIn xs home b → b.careof ≢ home → now < b.end → held_under xs home b.number now ≡ Some b.careof
unfolding held_under
living-held xs home now b lives away ahead = by (home_after home xs) (live-last xs home b lives)
  where
    under : (c : Binding) → stands_under home b.number now c ≡ true → (number_key c == b.number) ≡ true
    under c e = grind (arith, nat_tests)

    by : (o : Option HomeKept) → IsLast b.number b o → careof_where (stands_under home b.number now) o ≡ Some b.careof
    by None last = absurd last
    by (Some k) last =
        let here : stands_under home b.number now b ≡ true = grind (arith, nat_tests) in
        ap (option_map (λ (c : Binding). c.careof)) (last-stricter (stands_under home b.number now) (λ (c : Binding). number_key c == b.number) under k.live b last here)

-- where a sequence is no longer kept, no binding of its home stands
module _ (home now : ℕ) (p : Binding → Bool) (stands : (b : Binding) → p b ≡ true → is_standing home now b ≡ true) where
  none_stands : (until : ℕ) (bs : List Binding) → until ≤ now → AllByRecursion (λ b. b.end ≤ until) bs → list_any p bs ≡ false
  none_stands until [] over ends = refl
  none_stands until (b ∷ bs) over ends = by (p b) refl (none_stands until bs over ends.1)
    where
      by : (passes : Bool) → p b ≡ passes → list_any p bs ≡ false → (passes || list_any p bs) ≡ false
      by true e more = let standing = stands b e in let end = ends.0 in absurd (grind (arith, nat_tests))
      by false e more = more

  kept_careof : (o : Option HomeKept) → IsWellIf o → careof_where p (if_kept until_key now o) ≡ careof_where p o
  kept_careof None well = refl
  kept_careof (Some k) well = by (nat_lt now k.until) refl
    where
      by : (b : Bool) → nat_lt now k.until ≡ b → careof_where p (if b then Some k else None) ≡ careof_where p (Some k)
      by true e = refl
      by false e =
          let over : k.until ≤ now = grind (arith, nat_tests) in
          sym (ap (option_map (λ (b : Binding). b.careof)) (last_where-none p k.live (none_stands k.until k.live over well.ends)))

  kept_any : (o : Option HomeKept) → IsWellIf o → any_lives p (if_kept until_key now o) ≡ any_lives p o
  kept_any None well = refl
  kept_any (Some k) well = by (nat_lt now k.until) refl
    where
      by : (b : Bool) → nat_lt now k.until ≡ b → any_lives p (if b then Some k else None) ≡ any_lives p (Some k)
      by true e = refl
      by false e =
          let over : k.until ≤ now = grind (arith, nat_tests) in
          sym (none_stands k.until k.live over well.ends)

  found_careof : (xs : List Acceptance) → careof_where p (home_after home xs) ≡ careof_where p (find_by home_key home (kept_homes now (homes xs)))
  found_careof xs =
      sym (kept_careof (home_after home xs) (home_after-well xs home))
      ∙ ap (λ (o : Option HomeKept). careof_where p (if_kept until_key now o)) (home_after-homes xs home)
      ∙ sym (ap (careof_where p) (find-kept home_key until_key now home (homes xs) (rises-homes xs)))

  found_any : (xs : List Acceptance) → any_lives p (home_after home xs) ≡ any_lives p (find_by home_key home (kept_homes now (homes xs)))
  found_any xs =
      sym (kept_any (home_after home xs) (home_after-well xs home))
      ∙ ap (λ (o : Option HomeKept). any_lives p (if_kept until_key now o)) (home_after-homes xs home)
      ∙ sym (ap (any_lives p) (find-kept home_key until_key now home (homes xs) (rises-homes xs)))

-- what is held for a home is held by the home that is found among those whose sequence is kept
pub held-homes : (xs : List Acceptance) (home now : ℕ) → held xs home now ≡ careof_where (is_standing home now) (find_by home_key home (kept_homes now (homes xs)))
unfolding held
held-homes xs home now = found_careof home now (is_standing home now) (λ b standing. standing) xs

pub under-homes : (xs : List Acceptance) (home number now : ℕ) → held_under xs home number now ≡ careof_where (stands_under home number now) (find_by home_key home (kept_homes now (homes xs)))
unfolding held_under
under-homes xs home number now = found_careof home now (stands_under home number now) (under-stands home number now) xs

pub holds-homes : (xs : List Acceptance) (home now careof : ℕ) → holds xs home now careof ≡ any_lives (stands_at home now careof) (find_by home_key home (kept_homes now (homes xs)))
unfolding holds
holds-homes xs home now careof = found_any home now (stands_at home now careof) (λ b e. grind (arith, nat_tests)) xs
