-- The bindings that are remembered of a home are those that live.
use Rattle.std.proofs.Common.{◌≡◌, ◌≢◌, ℕ, List, [], ◌∷◌, ◌++◌, Bool, true, false, refl, sym, ap, subst, ◌∙◌, arith, append_assoc, append-nil}
use Rattle.std.specs.Prelude.{Option, Some, None, is_some, ◌||◌, not, nat_lt, ◌==◌, if◌then◌else◌}
use Rattle.std.specs.List.{AllByRecursion, list_any}
use Rattle.std.proofs.lemmas.Bool.{or_parts}
use Rattle.std.proofs.lemmas.Bool.Decides.{nat_tests}
use Rattle.mip_words.specs.Last.{or_else, last_where}
use Rattle.mip_words.proofs.LastLaws.{last_where-push, last_where-none, none-last_where}
use Rattle.mip_binding.specs.Acceptance.{Acceptance, Binding, binding_of, is_deletion}
use Rattle.mip_binding.specs.Rows.{others_by}
use Rattle.mip_binding.specs.Homes.{HomeKept, number_key, joins, kept_with, home_step, home_after}
use Rattle.mip_binding.specs.Held.{floor, sequence_in}
use Rattle.mip_binding.specs.HeldLaws.{Lives, LivesIn}
use Rattle.mip_binding.proofs.RowLaws.{others-other, last-others, all-push, all-filtered}
use Rattle.mip_binding.proofs.HomeLaws.{left_by, kept_with-left, home_after-push}

abbrev pub AllLive : List Acceptance → ℕ → Option HomeKept → Type 0
AllLive xs home None = Unit {0}
AllLive xs home (Some k) = AllByRecursion (LivesIn xs home) k.live

-- what one more acceptance is to a binding of a home
abbrev pub IsOutlived : ℕ → ℕ → List Acceptance → Acceptance → Type 0
IsOutlived home number before x = x.home ≡ home → (is_deletion x ≡ false) × (x.number ≢ number) × (is_some (floor before home x.at) ≡ true)

lives-snoc : (home number : ℕ) (before after : List Acceptance) (x : Acceptance) → Lives home number before after → IsOutlived home number (before ++ after) x → Lives home number before (after ++ x ∷ [])
lives-snoc home number before [] x lives one = (subst (λ (l : List Acceptance). IsOutlived home number l x) (append-nil before) one, tt)
lives-snoc home number before (y ∷ ys) x lives one =
    (lives.0, lives-snoc home number (before ++ y ∷ []) ys x lives.1 (subst (λ (l : List Acceptance). IsOutlived home number l x) (sym (append_assoc before (y ∷ []) ys)) one))

-- a binding that lives goes on, where it outlives one more acceptance
goes_on : (xs : List Acceptance) (home : ℕ) (x : Acceptance) (b : Binding) (l : LivesIn xs home b) → IsOutlived home b.number xs x → LivesIn (xs ++ x ∷ []) home b
goes_on xs home x b l one =
    let number : l.acceptance.number ≡ b.number = ap (λ (c : Binding). c.number) l.is in
    let split : xs ≡ (l.before ++ l.acceptance ∷ []) ++ l.after = l.whole ∙ sym (append_assoc l.before (l.acceptance ∷ []) l.after) in
    let here = subst (λ (n : ℕ). IsOutlived home n xs x) (sym number) one in
    let there = subst (λ (ys : List Acceptance). IsOutlived home l.acceptance.number ys x) split here in
    record {
      acceptance = l.acceptance;
      is = l.is;
      before = l.before;
      after = l.after ++ x ∷ [];
      whole = ap (λ (ys : List Acceptance). ys ++ x ∷ []) l.whole ∙ append_assoc l.before (l.acceptance ∷ l.after) (x ∷ []);
      of_home = l.of_home;
      lives = lives-snoc home l.acceptance.number (l.before ++ l.acceptance ∷ []) l.after x l.lives there;
    }

all_go_on : (xs : List Acceptance) (home : ℕ) (x : Acceptance) (bs : List Binding) → AllByRecursion (LivesIn xs home) bs → AllByRecursion (λ b. IsOutlived home b.number xs x) bs → AllByRecursion (LivesIn (xs ++ x ∷ []) home) bs
all_go_on xs home x [] lives ones = tt
all_go_on xs home x (b ∷ bs) lives ones = (goes_on xs home x b lives.0 ones.0, all_go_on xs home x bs lives.1 ones.1)

-- an acceptance of another home is outlived by all
all_other : (xs : List Acceptance) (home : ℕ) (x : Acceptance) → x.home ≢ home → (bs : List Binding) → AllByRecursion (λ b. IsOutlived home b.number xs x) bs
all_other xs home x other [] = tt
all_other xs home x other (b ∷ bs) = (λ same. absurd (other same), all_other xs home x other bs)

-- and one that joins the others by those of other numbers
all_joined : (xs : List Acceptance) (home : ℕ) (x : Acceptance) → is_deletion x ≡ false → is_some (floor xs home x.at) ≡ true → (bs : List Binding) → AllByRecursion (λ b. b.number ≢ x.number) bs → AllByRecursion (λ b. IsOutlived home b.number xs x) bs
all_joined xs home x stays some [] others = tt
all_joined xs home x stays some (b ∷ bs) others = (λ same. (stays, λ e. others.0 (sym e), some), all_joined xs home x stays some bs others.1)

joined_floor : (xs : List Acceptance) (home : ℕ) (k : HomeKept) (x : Acceptance) → home_after home xs ≡ Some k → joins k x ≡ true → (is_deletion x ≡ false) × (is_some (floor xs home x.at) ≡ true)
unfolding floor
joined_floor xs home k x is joined =
    let kept : nat_lt x.at k.until ≡ true = grind (arith, nat_tests) in
    (grind (arith, nat_tests), ap (λ (o : Option HomeKept). is_some (sequence_in x.at o)) is ∙ ap (λ (b : Bool). is_some (if b then Some k.sequence else None)) kept)

left_live : (xs : List Acceptance) (x : Acceptance) (o : Option HomeKept) → home_after x.home xs ≡ o → AllLive xs x.home o → AllByRecursion (LivesIn (xs ++ x ∷ []) x.home) (left_by o x)
left_live xs x None is lives = tt
left_live xs x (Some k) is lives = by (joins k x) refl
  where
    by : (b : Bool) → joins k x ≡ b → AllByRecursion (LivesIn (xs ++ x ∷ []) x.home) (if b then others_by number_key x.number k.live else [])
    by true e =
        let joined = joined_floor xs x.home k x is e in
        let bs = others_by number_key x.number k.live in
        all_go_on xs x.home x bs (all-filtered (LivesIn xs x.home) (λ (b : Binding). not (b.number == x.number)) k.live lives)
        (all_joined xs x.home x joined.0 joined.1 bs (others-other number_key x.number k.live))
    by false e = tt

itself : (xs : List Acceptance) (x : Acceptance) → LivesIn (xs ++ x ∷ []) x.home (binding_of x)
itself xs x = record { acceptance = x; is = refl; before = xs; after = []; whole = refl; of_home = refl; lives = tt }

step-lives : (xs : List Acceptance) (x : Acceptance) (home : ℕ) → AllLive xs home (home_after home xs) → AllLive (xs ++ x ∷ []) home (home_step home (home_after home xs) x)
step-lives xs x home lives = by (x.home == home) refl
  where
    others : (o : Option HomeKept) → x.home ≢ home → AllLive xs home o → AllLive (xs ++ x ∷ []) home o
    others None other all = tt
    others (Some k) other all = all_go_on xs home x k.live all (all_other xs home x other k.live)

    here : AllLive xs x.home (home_after x.home xs) → AllLive (xs ++ x ∷ []) x.home (Some (kept_with (home_after x.home xs) x))
    here all =
        let o = home_after x.home xs in
        subst (λ (k : HomeKept). AllByRecursion (LivesIn (xs ++ x ∷ []) x.home) k.live) (sym (kept_with-left o x))
        (all-push (LivesIn (xs ++ x ∷ []) x.home) (left_by o x) (binding_of x) (left_live xs x o refl all) (itself xs x))

    by : (same : Bool) → (x.home == home) ≡ same → AllLive (xs ++ x ∷ []) home (if same then Some (kept_with (home_after home xs) x) else home_after home xs)
    by true e =
        let same : x.home ≡ home = grind (arith, nat_tests) in
        subst (λ (h : ℕ). AllLive (xs ++ x ∷ []) h (Some (kept_with (home_after h xs) x))) same (here (subst (λ (h : ℕ). AllLive xs h (home_after h xs)) (sym same) lives))
    by false e =
        let other : x.home ≢ home = grind (arith, nat_tests) in
        others (home_after home xs) other lives

lives_on : (front rest : List Acceptance) (home : ℕ) → AllLive front home (home_after home front) → AllLive (front ++ rest) home (home_after home (front ++ rest))
lives_on front [] home lives = subst (λ (xs : List Acceptance). AllLive xs home (home_after home xs)) (sym (append-nil front)) lives
lives_on front (x ∷ rest) home lives =
    let next = subst (AllLive (front ++ x ∷ []) home) (sym (home_after-push front x home)) (step-lives front x home lives) in
    subst (λ (xs : List Acceptance). AllLive xs home (home_after home xs)) (append_assoc front (x ∷ []) rest) (lives_on (front ++ x ∷ []) rest home next)

pub all-live : (xs : List Acceptance) (home : ℕ) → AllLive xs home (home_after home xs)
all-live xs home = lives_on [] xs home tt

-- the last binding of a number
abbrev pub IsLast : ℕ → Binding → Option HomeKept → Type 0
IsLast number b None = ⊥
IsLast number b (Some k) = last_where (λ c. number_key c == number) k.live ≡ Some b

last_first : (o : Option HomeKept) (x : Acceptance) → IsLast x.number (binding_of x) (Some (kept_with o x))
last_first o x =
    let here : (x.number == x.number) ≡ true = grind (arith, nat_tests) in
    let p = λ (c : Binding). number_key c == x.number in
    ap (λ (k : HomeKept). last_where p k.live) (kept_with-left o x)
    ∙ last_where-push p (left_by o x) (binding_of x)
    ∙ ap (λ (b : Bool). if b then Some (binding_of x) else last_where p (left_by o x)) here

last_joined : (k : HomeKept) (x : Acceptance) (number : ℕ) (b : Binding) → joins k x ≡ true → x.number ≢ number → IsLast number b (Some k) → IsLast number b (Some (kept_with (Some k) x))
last_joined k x number b joined other last =
    let p = λ (c : Binding). number_key c == number in
    let off : (x.number == number) ≡ false = grind (arith, nat_tests) in
    ap (λ (h : HomeKept). last_where p h.live) (kept_with-left (Some k) x)
    ∙ last_where-push p (left_by (Some k) x) (binding_of x)
    ∙ ap (λ (t : Bool). if t then Some (binding_of x) else last_where p (left_by (Some k) x)) off
    ∙ ap (λ (t : Bool). last_where p (if t then others_by number_key x.number k.live else [])) joined
    ∙ last-others number_key x.number number k.live other
    ∙ last

-- a sequence that is kept is that of a home that is remembered, in time
kept_floor : (xs : List Acceptance) (home now : ℕ) (k : HomeKept) → home_after home xs ≡ Some k → is_some (floor xs home now) ≡ true → nat_lt now k.until ≡ true
unfolding floor
kept_floor xs home now k is some = by (nat_lt now k.until) (sym (ap (λ (o : Option HomeKept). is_some (sequence_in now o)) is) ∙ some)
  where
    by : (b : Bool) → is_some (if b then Some k.sequence else None) ≡ true → b ≡ true
    by true e = refl
    by false e = e

last_step : (front : List Acceptance) (x : Acceptance) (home number : ℕ) (b : Binding) → IsOutlived home number front x → IsLast number b (home_after home front) → IsLast number b (home_step home (home_after home front) x)
last_step front x home number b one last = by (x.home == home) refl
  where
    joined : (o : Option HomeKept) → home_after home front ≡ o → x.home ≡ home → IsLast number b o → IsLast number b (Some (kept_with o x))
    joined None is same last = absurd last
    joined (Some k) is same last =
        let outlived = one same in
        let stays = outlived.0 in
        let kept = kept_floor front home x.at k is outlived.2 in
        let joins_it : joins k x ≡ true = grind (arith, nat_tests) in
        last_joined k x number b joins_it outlived.1 last

    by : (same : Bool) → (x.home == home) ≡ same → IsLast number b (if same then Some (kept_with (home_after home front) x) else home_after home front)
    by true e = joined (home_after home front) refl (grind (arith, nat_tests)) last
    by false e = last

last_on : (front rest : List Acceptance) (home number : ℕ) (b : Binding) → Lives home number front rest → IsLast number b (home_after home front) → IsLast number b (home_after home (front ++ rest))
last_on front [] home number b lives last = subst (λ (xs : List Acceptance). IsLast number b (home_after home xs)) (sym (append-nil front)) last
last_on front (x ∷ rest) home number b lives last =
    let next = subst (IsLast number b) (sym (home_after-push front x home)) (last_step front x home number b lives.0 last) in
    subst (λ (xs : List Acceptance). IsLast number b (home_after home xs)) (append_assoc front (x ∷ []) rest) (last_on (front ++ x ∷ []) rest home number b lives.1 next)

-- a binding that lives is the last of its number
pub live-last : (xs : List Acceptance) (home : ℕ) (b : Binding) → LivesIn xs home b → IsLast b.number b (home_after home xs)
live-last xs home b l =
    let a = l.acceptance in
    let front = l.before ++ a ∷ [] in
    let first : IsLast a.number (binding_of a) (home_after a.home front) =
    subst (IsLast a.number (binding_of a)) (sym (home_after-push l.before a a.home ∙ same a (home_after a.home l.before))) (last_first (home_after a.home l.before) a) in
    let here = subst (λ (h : ℕ). IsLast a.number (binding_of a) (home_after h front)) l.of_home first in
    let last = last_on front l.after home a.number (binding_of a) l.lives here in
    let whole : front ++ l.after ≡ xs = append_assoc l.before (a ∷ []) l.after ∙ sym l.whole in
    subst (λ (c : Binding). IsLast c.number c (home_after home xs)) l.is (subst (λ (ys : List Acceptance). IsLast a.number (binding_of a) (home_after home ys)) whole last)
  where
    same : (a : Acceptance) (o : Option HomeKept) → home_step a.home o a ≡ Some (kept_with o a)
    same a o = grind (arith, nat_tests)

none_stricter : {X : Type 0} (p q : X → Bool) → ((x : X) → p x ≡ true → q x ≡ true) → (xs : List X) → list_any q xs ≡ false → list_any p xs ≡ false
none_stricter p q less [] quiet = refl
none_stricter {X = X} p q less (x ∷ xs) quiet = by (p x) refl (none_stricter p q less xs) (or_parts (q x) (list_any q xs) quiet)
  where
    by : (b : Bool) → p x ≡ b → (list_any q xs ≡ false → list_any p xs ≡ false) → (q x ≡ false) × (list_any q xs ≡ false) → (b || list_any p xs) ≡ false
    by true is more parts = let yes = less x is in let none = parts.0 in cc
    by false is more parts = more parts.1

-- and the last that passes a stricter test, where it passes
pub last-stricter : {X : Type 0} (p q : X → Bool) → ((x : X) → p x ≡ true → q x ≡ true) → (xs : List X) (x : X) → last_where q xs ≡ Some x → p x ≡ true → last_where p xs ≡ Some x
last-stricter p q less [] x e passes = absurd cc
last-stricter {X = X} p q less (y ∷ ys) x e passes = by (last_where q ys) refl (q y) (last-stricter p q less ys x) e
  where
    none : list_any q ys ≡ false → list_any p ys ≡ false
    none quiet = none_stricter p q less ys quiet

    by : (o : Option X) → last_where q ys ≡ o → (b : Bool) → (last_where q ys ≡ Some x → p x ≡ true → last_where p ys ≡ Some x) → or_else o (if b then Some y else None) ≡ Some x → or_else (last_where p ys) (if p y then Some y else None) ≡ Some x
    by (Some z) is b more e = ap (λ (o : Option X). or_else o (if p y then Some y else None)) (more (is ∙ e) passes)
    by None is true more e =
        let same : y ≡ x = cc in
        let here : p y ≡ true = ap p same ∙ passes in
        ap (λ (o : Option X). or_else o (if p y then Some y else None)) (last_where-none p ys (none (none-last_where q ys is)))
        ∙ ap (λ (b : Bool). or_else None (if b then Some y else None)) here
        ∙ ap (λ (z : X). Some z) same
    by None is false more e = absurd cc
