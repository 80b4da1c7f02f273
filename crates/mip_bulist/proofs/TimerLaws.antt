-- Numbers below 64, no two the same: what stays so, and that there is room for one more.
use Rattle.std.proofs.Common.{◌≡◌, ◌≢◌, ℕ, ◌+◌, ◌<◌, ◌≤◌, Bool, true, false, sym, subst, eqb, List, [], ◌∷◌, ◌++◌, length, map, take, drop, arith, take-append-drop, refl, nat_lt}
use Rattle.std.specs.Prelude.{not, cond, ◌==◌, ◌||◌, filter, insert, unwrap_or, Some, None, suc}
use Rattle.std.specs.List.{list_any, IsDistinct, AllByRecursion, position_or_len}
use Rattle.std.proofs.lemmas.List.{length-map}
use Rattle.std.proofs.lemmas.List.Sums.{prefix_len-le-length}
use Rattle.std.proofs.lemmas.Bool.Decides.{nat_tests}
use Rattle.std.proofs.lemmas.Map.Steps.{length-le_from_distinct_below}
use Rattle.mip_words.specs.declared.moment.Moment.{Moment}
use Rattle.mip_bulist.specs.declared.home_timer.HomeTimer.TheVariants as home_timers
use Rattle.mip_bulist.specs.declared.work.Work.{Work}
use Rattle.mip_bulist.specs.declared.work.Work.TheVariants.{Resend, Renew, End, Home}
use Rattle.mip_bulist.specs.declared.timer.Timer.{Timer}
use Rattle.mip_bulist.specs.Timers.{number_of, IsInRange, is_of, without_timer, put_timer, place_of, with_timer, without_due, due_work, IsAbsent, AreApart, AreDueFrom, AreInOrder, IsSound}

pub number_below : (work : Work) → IsInRange work → number_of work < 64
number_below (Resend row) h = omega arith
number_below (Renew row) h = omega arith
number_below (End row) h = omega arith
number_below (Home home_timers.Resend) h = omega arith
number_below (Home home_timers.Renew) h = omega arith
number_below (Home home_timers.End) h = omega arith
number_below (Home home_timers.Discover) h = omega arith

-- what a filter leaves
filter_absent : (p : Timer → Bool) (n : ℕ) (ts : List Timer) → IsAbsent n ts → IsAbsent n (filter p ts)
filter_absent p n [] a = tt
filter_absent p n (t ∷ ts) a =
    elim (p t) as (λ b. IsAbsent n (cond b (t ∷ filter p ts) (filter p ts))) [ true ↦ (a.0, filter_absent p n ts a.1) | false ↦ filter_absent p n ts a.1 ]

filter_apart : (p : Timer → Bool) (ts : List Timer) → AreApart ts → AreApart (filter p ts)
filter_apart p [] s = tt
filter_apart p (t ∷ ts) s =
    elim (p t) as (λ b. AreApart (cond b (t ∷ filter p ts) (filter p ts))) [ true ↦ (s.0, filter_absent p (number_of t.work) ts s.1, filter_apart p ts s.2) | false ↦ filter_apart p ts s.2 ]

without_absent : (work : Work) (ts : List Timer) → IsAbsent (number_of work) (without_timer work ts)
without_absent work [] = tt
without_absent work (t ∷ ts) =
    let P : Bool → Type 0 = λ b. (number_of t.work == number_of work) ≡ b → IsAbsent (number_of work) (cond (not b) (t ∷ without_timer work ts) (without_timer work ts)) in
    (elim (number_of t.work == number_of work) as P [ true ↦ λ e. without_absent work ts | false ↦ λ e. (grind (arith, nat_tests), without_absent work ts) ]) refl

-- one more timer, wherever it goes
insert_absent : (n : ℕ) (t : Timer) (xs ys : List Timer) → number_of t.work ≢ n → IsAbsent n (xs ++ ys) → IsAbsent n (xs ++ t ∷ ys)
insert_absent n t [] ys other a = (other, a)
insert_absent n t (x ∷ xs) ys other a = (a.0, insert_absent n t xs ys other a.1)

insert_apart : (t : Timer) (xs ys : List Timer) → number_of t.work < 64 → IsAbsent (number_of t.work) (xs ++ ys) → AreApart (xs ++ ys) → AreApart (xs ++ t ∷ ys)
insert_apart t [] ys below a s = (below, a, s)
insert_apart t (x ∷ xs) ys below a s = (s.0, insert_absent (number_of x.work) t xs ys (λ e. a.0 (sym e)) s.1, insert_apart t xs ys below a.1 s.2)

put_apart : (t : Timer) (ts : List Timer) → AreApart (t ∷ ts) → AreApart (put_timer t ts)
put_apart t ts s =
    let at = place_of t.due ts in
    let whole : ts ≡ take at ts ++ drop at ts = sym (take-append-drop at ts) in
    insert_apart t (take at ts) (drop at ts) s.0 (subst (IsAbsent (number_of t.work)) whole s.1) (subst AreApart whole s.2)

fresh_apart : (due : Moment) (work : Work) (ts : List Timer) → IsInRange work → AreApart ts → AreApart (record { due = due; work = work } ∷ without_timer work ts)
fresh_apart due work ts range s = (number_below work range, without_absent work ts, filter_apart (λ t. not (is_of work t)) ts s)

with_apart : (due : Moment) (work : Work) (ts : List Timer) → IsInRange work → AreApart ts → AreApart (with_timer due work ts)
with_apart due work ts range s = put_apart (record { due = due; work = work }) (without_timer work ts) (fresh_apart due work ts range s)

without_apart : (work : Work) (ts : List Timer) → AreApart ts → AreApart (without_timer work ts)
without_apart work ts s = filter_apart (λ t. not (is_of work t)) ts s

-- at most 64 timers
differ : (n : ℕ) (ts : List Timer) → IsAbsent n ts → AllByRecursion (λ y. (n == y) ≡ false) (map (λ t. number_of t.work) ts)
differ n [] a = tt
differ n (t ∷ ts) a = let other : number_of t.work ≢ n = a.0 in (grind (arith, nat_tests), differ n ts a.1)

distinct : (ts : List Timer) → AreApart ts → IsDistinct eqb (map (λ t. number_of t.work) ts)
unfolding IsDistinct
distinct [] s = tt
distinct (t ∷ ts) s = (differ (number_of t.work) ts s.1, distinct ts s.2)

all_below : (ts : List Timer) → AreApart ts → (q : ℕ) → list_any (eqb q) (map (λ t. number_of t.work) ts) ≡ true → q < 64
all_below [] s q e = absurd cc
all_below (t ∷ ts) s q e =
    let P : Bool → Type 0 = λ b. (q == number_of t.work) ≡ b → (b || list_any (eqb q) (map (λ t. number_of t.work) ts)) ≡ true → q < 64 in
    let below : number_of t.work < 64 = s.0 in
    (elim (q == number_of t.work) as P [ true ↦ λ is _. grind (arith, nat_tests) | false ↦ λ _ more. all_below ts s.2 q more ]) refl e

few : (ts : List Timer) → AreApart ts → length ts ≤ 64
few ts s = subst (λ n. n ≤ 64) (length-map ts (λ t. number_of t.work)) (length-le_from_distinct_below (map (λ t. number_of t.work) ts) 64 (distinct ts s) (all_below ts s))

-- what a filter leaves is in order
pub filter_from : (p : Timer → Bool) (at : ℕ) (ts : List Timer) → AreDueFrom at ts → AreDueFrom at (filter p ts)
filter_from p at [] d = tt
filter_from p at (t ∷ ts) d =
    elim (p t) as (λ b. AreDueFrom at (cond b (t ∷ filter p ts) (filter p ts))) [ true ↦ (d.0, filter_from p at ts d.1) | false ↦ filter_from p at ts d.1 ]

pub filter_order : (p : Timer → Bool) (ts : List Timer) → AreInOrder ts → AreInOrder (filter p ts)
filter_order p [] o = tt
filter_order p (t ∷ ts) o =
    elim (p t) as (λ b. AreInOrder (cond b (t ∷ filter p ts) (filter p ts))) [ true ↦ (filter_from p t.due.0 ts o.0, filter_order p ts o.1) | false ↦ filter_order p ts o.1 ]

pub from_earlier : (a b : ℕ) (ts : List Timer) → a ≤ b → AreDueFrom b ts → AreDueFrom a ts
from_earlier a b [] le d = tt
from_earlier a b (t ∷ ts) le d = let h : b ≤ t.due.0 = d.0 in (omega arith, from_earlier a b ts le d.1)

-- a timer behind one more
pub at_more : (n : ℕ) (t x : Timer) (xs : List Timer) → insert (x ∷ xs) (1 + n) t ≡ x ∷ insert xs n t
at_more n t x xs = let e : suc n ≡ 1 + n = omega arith in subst (λ m. insert (x ∷ xs) m t ≡ x ∷ insert xs n t) e refl

insert_from : (at : ℕ) (t : Timer) (xs ys : List Timer) → at ≤ t.due.0 → AreDueFrom at (xs ++ ys) → AreDueFrom at (xs ++ t ∷ ys)
insert_from at t [] ys le d = (le, d)
insert_from at t (x ∷ xs) ys le d = (d.0, insert_from at t xs ys le d.1)

at_from : (at n : ℕ) (t : Timer) (ts : List Timer) → at ≤ t.due.0 → AreDueFrom at ts → AreDueFrom at (insert ts n t)
at_from at n t ts le d =
    let whole : ts ≡ take n ts ++ drop n ts = sym (take-append-drop n ts) in
    insert_from at t (take n ts) (drop n ts) le (subst (AreDueFrom at) whole d)

order_at : (t : Timer) (ts : List Timer) → AreInOrder ts → AreInOrder (insert ts (position_or_len (λ u. nat_lt t.due.0 u.due.0) ts) t)
order_at t [] o = (tt, tt)
order_at t (x ∷ xs) o =
    let n = position_or_len (λ u. nat_lt t.due.0 u.due.0) xs in
    let P : Bool → Type 0 = λ b. nat_lt t.due.0 x.due.0 ≡ b → AreInOrder (insert (x ∷ xs) (cond (not b) (1 + n) 0) t) in
    (elim (nat_lt t.due.0 x.due.0) as P [
      | true ↦ λ e. let le : t.due.0 ≤ x.due.0 = grind (arith, nat_tests) in ((le, from_earlier t.due.0 x.due.0 xs le o.0), o)
      | false ↦ λ e. let le : x.due.0 ≤ t.due.0 = grind (arith, nat_tests) in subst AreInOrder (sym (at_more n t x xs)) (at_from x.due.0 n t xs le o.0, order_at t xs o.1)
    ]) refl

pub place_is : (due : Moment) (ts : List Timer) → place_of due ts ≡ position_or_len (λ t. nat_lt due.0 t.due.0) ts
place_is due ts =
    let a = position_or_len (λ t. nat_lt due.0 t.due.0) ts in
    let b = length ts in
    let le : a ≤ b = prefix_len-le-length (λ t. not (nat_lt due.0 t.due.0)) ts in
    let P : Bool → Type 0 = λ v. nat_lt a b ≡ v → unwrap_or (cond v (Some a) None) b ≡ a in
    (elim (nat_lt a b) as P [ true ↦ λ _. refl | false ↦ λ e. grind (arith, nat_tests) ]) refl

pub put_order : (t : Timer) (ts : List Timer) → AreInOrder ts → AreInOrder (put_timer t ts)
put_order t ts o = subst (λ n. AreInOrder (insert ts n t)) (sym (place_is t.due ts)) (order_at t ts o)

pub due_order : (now : Moment) (ts : List Timer) → AreInOrder ts → AreInOrder (without_due now ts)
due_order now [] o = tt
due_order now (t ∷ ts) o = elim (nat_lt now.0 t.due.0) as (λ b. AreInOrder (cond b (t ∷ ts) ts)) [ true ↦ o | false ↦ o.1 ]

-- what each call leaves
pub with_sound : (due : Moment) (work : Work) (ts : List Timer) → IsInRange work → IsSound ts → IsSound (with_timer due work ts)
with_sound due work ts range s = record {
  apart = with_apart due work ts range s.apart;
  order = put_order (record { due = due; work = work }) (without_timer work ts) (filter_order (λ t. not (is_of work t)) ts s.order);
}

pub without_sound : (work : Work) (ts : List Timer) → IsSound ts → IsSound (without_timer work ts)
without_sound work ts s = record { apart = without_apart work ts s.apart; order = filter_order (λ t. not (is_of work t)) ts s.order }

-- at most 63 timers of other works
pub room_left : (work : Work) (ts : List Timer) → IsInRange work → IsSound ts → length (without_timer work ts) < 64
room_left work ts range s =
    let t : Timer = record { due = record { 0 = 0 }; work = work } in
    let count : suc (length (without_timer work ts)) ≤ 64 = few (t ∷ without_timer work ts) (fresh_apart t.due work ts range s.apart) in
    omega arith

-- of timers in order none is due where the first is not
pub none_due : (now : Moment) (ts : List Timer) → AreInOrder ts → due_work now ts ≡ None → AreDueFrom (now.0 + 1) ts
none_due now [] o e = tt
none_due now (t ∷ ts) o e =
    let P : Bool → Type 0 = λ b. nat_lt now.0 t.due.0 ≡ b → cond b None (Some t.work) ≡ None → AreDueFrom (now.0 + 1) (t ∷ ts) in
    (elim (nat_lt now.0 t.due.0) as P [
      | true ↦ λ is _. let le : now.0 + 1 ≤ t.due.0 = grind (arith, nat_tests) in (le, from_earlier (now.0 + 1) t.due.0 ts le o.0)
      | false ↦ λ _ no. absurd cc
    ]) refl e
