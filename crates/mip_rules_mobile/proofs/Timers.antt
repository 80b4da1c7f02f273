-- The timers of a mobile: they stand in order of due moment, and due work leaves none that is due.
use Rattle.std.proofs.Common.{◌≡◌, ℕ, zero, suc, ◌+◌, ◌<◌, ◌≤◌, Bool, true, false, sym, subst, ap, ◌∙◌, List, [], ◌∷◌, ◌++◌, length, take, drop, arith, take-append-drop, refl, nat_lt}
use Rattle.std.specs.Prelude.{not, cond, filter, if◌then◌else◌, Option, Some, None, fold}
use Rattle.std.proofs.lemmas.Bool.Decides.{nat_tests}
use Rattle.mip_words.specs.declared.address.Address.{Address}
use Rattle.mip_words.specs.declared.moment.Moment.{Moment}
use Rattle.mip_nonce.specs.Secrets.{Life}
use Rattle.mip_bulist.specs.declared.work.Work.{Work}
use Rattle.mip_bulist.specs.declared.work.Work.TheVariants as works
use Rattle.mip_bulist.specs.declared.timer.Timer.{Timer}
use Rattle.mip_bulist.specs.Timers.{is_of, without_timer, place_of, with_timer, without_due, due_work, AreDueFrom, AreInOrder}
use Rattle.mip_bulist.proofs.TimerLaws.{none_due, filter_order, put_order, due_order}
use Rattle.mip_entries.specs.Stamped.{Stamped}
use Rattle.mip_entries.proofs.TransitionLaws.{noted-now, noted-known}
use Rattle.mip_rules_mobile.specs.Calls as calls
use Rattle.mip_rules_mobile.specs.Calls.{Call}
use Rattle.mip_rules_mobile.specs.Steps.{Step, Called, Parts, Notes, Sends, Unsends, Drops, Claims, Releases, FindsTaken, Arrives, Detaches, Restarts, Registers, Unregisters, IsRefused, Resequences, Seeks, SeeksAgain, GivesUp, Finds, Chooses, Learns, Meets, Tries, Updates, Forgets, Binds, Unbinds, Waits, Stops, Rings}
use Rattle.mip_rules_mobile.specs.Known.{Known}
use Rattle.mip_rules_mobile.specs.TimerQuestions.{timers_after, later, moment, ending_home, renewing_home}
use Rattle.mip_rules_mobile.specs.Questions.{after, fresh, known}
use Rattle.mip_rules_mobile.specs.Transitions.{Transition, begun, noted}
use Rattle.mip_rules_mobile.specs.RingingRules.{rings, rings_on, ticks, ticks_all}
use Rattle.mip_rules_mobile.specs.Doing.{does, transition_of}
use Rattle.mip_rules_mobile.specs.Coming.{is_take}
use Rattle.mip_rules_mobile.specs.Fitting.{Fits, Steady, kind_of}
use Rattle.mip_rules_mobile.proofs.Steady.{Goes}
use Rattle.mip_rules_mobile.proofs.RingWalks.{every-work}

without_order : (work : Work) (ts : List Timer) → AreInOrder ts → AreInOrder (without_timer work ts)
without_order work ts o = filter_order (λ t. not (is_of work t)) ts o

with_order : (due : Moment) (work : Work) (ts : List Timer) → AreInOrder ts → AreInOrder (with_timer due work ts)
with_order due work ts o =
    put_order (record { due = due; work = work }) (without_timer work ts) (without_order work ts o)

-- each step leaves them in order
pub order-kept : (ts : List Timer) (at : ℕ) (step : Step) → AreInOrder ts → AreInOrder (timers_after ts at step)
order-kept ts at (Called call) o = o
order-kept ts at (Parts call) o = o
order-kept ts at (Notes entry) o = o
order-kept ts at (Sends sending) o = o
order-kept ts at (Unsends why) o = o
order-kept ts at (Drops number why) o = o
order-kept ts at (Claims address) o = o
order-kept ts at (Releases address) o = o
order-kept ts at (FindsTaken address holder) o = o
order-kept ts at (Arrives address) o = o
order-kept ts at Detaches o = tt
order-kept ts at (Restarts secrets) o = tt
order-kept ts at (Registers agent end renew) o = with_order end ending_home (with_timer renew renewing_home ts) (with_order renew renewing_home ts o)
order-kept ts at (Unregisters agent) o = o
order-kept ts at (IsRefused status) o = o
order-kept ts at (Resequences agent last) o = o
order-kept ts at Seeks o = o
order-kept ts at SeeksAgain o = o
order-kept ts at GivesUp o = o
order-kept ts at (Finds agents) o = o
order-kept ts at (Chooses agent) o = o
order-kept ts at (Learns valid preferred) o = o
order-kept ts at (Meets peer) o = o
order-kept ts at (Tries row change) o = o
order-kept ts at (Updates row update) o = o
order-kept ts at (Forgets row) o = o
order-kept ts at (Binds row peer end renew) o = with_order end (works.End row) (with_timer renew (works.Renew row) ts) (with_order renew (works.Renew row) ts o)
order-kept ts at (Unbinds row peer) o = without_order (works.End row) (without_timer (works.Renew row) ts) (without_order (works.Renew row) ts o)
order-kept ts at (Waits work wait) o = with_order (later at wait) work ts o
order-kept ts at (Stops work) o = without_order work ts o
order-kept ts at (Rings work) o = due_order (moment at) ts o

order-along : (k : Known) (past : List (Stamped Step)) → AreInOrder k.list.timers → AreInOrder (let l : Known = fold after k past in l.list.timers)
unfolding after
order-along k [] o = o
order-along k (s ∷ past) o = order-along (after k s) past (order-kept k.list.timers s.at s.step o)

-- after every past they stand in order
pub timers-order : (home : Address) (declared : Option Address) (numbers : ℕ) (secrets : Life) (past : List (Stamped Step)) → AreInOrder (known home declared numbers secrets past).list.timers
unfolding known
timers-order home declared numbers secrets past = order-along (fresh home declared numbers secrets) past tt

-- how many are due at a moment
late : ℕ → List Timer → ℕ
late now [] = 0
late now (t ∷ ts) = (if nat_lt now t.due.0 then 0 else 1) + late now ts

filter_late : (p : Timer → Bool) (now : ℕ) (ts : List Timer) → late now (filter p ts) ≤ late now ts
unfolding late
filter_late p now [] = omega arith
filter_late p now (t ∷ ts) =
    let rest : late now (filter p ts) ≤ late now ts = filter_late p now ts in
    elim (p t) as (λ b. late now (cond b (t ∷ filter p ts) (filter p ts)) ≤ (if nat_lt now t.due.0 then 0 else 1) + late now ts) [ true ↦ omega (arith, rest) | false ↦ omega (arith, rest) ]

insert_late : (now : ℕ) (t : Timer) (xs ys : List Timer) → now < t.due.0 → late now (xs ++ t ∷ ys) ≡ late now (xs ++ ys)
unfolding late
insert_late now t [] ys later =
    let is : nat_lt now t.due.0 ≡ true = grind (arith, nat_tests) in
    ap (λ (b : Bool). (if b then 0 else 1) + late now ys) is ∙ omega arith
insert_late now t (x ∷ xs) ys later = ap (λ (n : ℕ). (if nat_lt now x.due.0 then 0 else 1) + n) (insert_late now t xs ys later)

with_late : (now : ℕ) (due : Moment) (work : Work) (ts : List Timer) → now < due.0 → late now (with_timer due work ts) ≤ late now ts
with_late now due work ts later =
    let t : Timer = record { due = due; work = work } in
    let us = without_timer work ts in
    let n = place_of due us in
    let whole : us ≡ take n us ++ drop n us = sym (take-append-drop n us) in
    let one : late now (take n us ++ t ∷ drop n us) ≡ late now (take n us ++ drop n us) = insert_late now t (take n us) (drop n us) later in
    let two : late now us ≡ late now (take n us ++ drop n us) = ap (late now) whole in
    let three : late now us ≤ late now ts = filter_late (λ u. not (is_of work u)) now ts in
    omega (arith, one, two, three)

due_late : (now : ℕ) (work : Work) (ts : List Timer) → due_work (moment now) ts ≡ Some work → suc (late now (without_due (moment now) ts)) ≡ late now ts
unfolding late
due_late now work [] is = absurd cc
due_late now work (t ∷ ts) is =
    let P : Bool → Type 0 = λ b. cond b None (Some t.work) ≡ Some work → suc (late now (cond b (t ∷ ts) ts)) ≡ (if b then 0 else 1) + late now ts in
    (elim (nat_lt now t.due.0) as P [ true ↦ λ no. absurd cc | false ↦ λ _. omega arith ]) is

due_less : (now : ℕ) (ts : List Timer) → late now (without_due (moment now) ts) ≤ late now ts
unfolding late
due_less now [] = omega arith
due_less now (t ∷ ts) =
    elim (nat_lt now t.due.0) as (λ (b : Bool). late now (cond b (t ∷ ts) ts) ≤ (if nat_lt now t.due.0 then 0 else 1) + late now ts) [ true ↦ omega arith | false ↦ omega arith ]

none-late : (now : ℕ) (ts : List Timer) → late now ts ≤ 0 → AreDueFrom (now + 1) ts
unfolding late
none-late now [] none = tt
none-late now (t ∷ ts) none =
    let P : Bool → Type 0 = λ b. nat_lt now t.due.0 ≡ b → (if b then 0 else 1) + late now ts ≤ 0 → AreDueFrom (now + 1) (t ∷ ts) in
    (elim (nat_lt now t.due.0) as P [
      | true ↦ λ is few. let le : now + 1 ≤ t.due.0 = grind (arith, nat_tests) in (le, none-late now ts (omega (arith, few)))
      | false ↦ λ is few. absurd (omega (arith, few))
    ]) refl none

late-none : (now : ℕ) (ts : List Timer) → AreDueFrom (now + 1) ts → late now ts ≤ 0
unfolding late
late-none now [] none = omega arith
late-none now (t ∷ ts) none =
    let first : now + 1 ≤ t.due.0 = none.0 in
    let rest : late now ts ≤ 0 = late-none now ts none.1 in
    let is : nat_lt now t.due.0 ≡ true = grind (arith, nat_tests) in
    subst (λ (b : Bool). (if b then 0 else 1) + late now ts ≤ 0) (sym is) (omega (arith, rest))

late-length : (now : ℕ) (ts : List Timer) → late now ts ≤ length ts
unfolding late
late-length now [] = omega arith
late-length now (t ∷ ts) =
    let rest : late now ts ≤ length ts = late-length now ts in
    elim (nat_lt now t.due.0) as (λ (b : Bool). (if b then 0 else 1) + late now ts ≤ suc (length ts)) [ true ↦ omega (arith, rest) | false ↦ omega (arith, rest) ]

-- no steady step makes more of them due
late-kept : (c : Call) (now : ℕ) (k : Known) (step : Step) (ts : List Timer) → kind_of step ≡ Steady → Fits c now k step → late now (timers_after ts now step) ≤ late now ts
late-kept c now k (Called call) ts is fits = absurd cc
late-kept c now k (Parts call) ts is fits = absurd cc
late-kept c now k (Notes entry) ts is fits = absurd cc
late-kept c now k (Sends sending) ts is fits = omega arith
late-kept c now k (Unsends why) ts is fits = omega arith
late-kept c now k (Drops number why) ts is fits = absurd cc
late-kept c now k (Claims address) ts is fits = omega arith
late-kept c now k (Releases address) ts is fits = omega arith
late-kept c now k (FindsTaken address holder) ts is fits = absurd cc
late-kept c now k (Arrives address) ts is fits = absurd cc
late-kept c now k Detaches ts is fits = absurd cc
late-kept c now k (Restarts secrets) ts is fits = absurd cc
late-kept c now k (Registers agent end renew) ts is fits = absurd cc
late-kept c now k (Unregisters agent) ts is fits = omega arith
late-kept c now k (IsRefused status) ts is fits = omega arith
late-kept c now k (Resequences agent last) ts is fits = omega arith
late-kept c now k Seeks ts is fits = omega arith
late-kept c now k SeeksAgain ts is fits = omega arith
late-kept c now k GivesUp ts is fits = omega arith
late-kept c now k (Finds agents) ts is fits = omega arith
late-kept c now k (Chooses agent) ts is fits = omega arith
late-kept c now k (Learns valid preferred) ts is fits = omega arith
late-kept c now k (Meets peer) ts is fits = omega arith
late-kept c now k (Tries row change) ts is fits = omega arith
late-kept c now k (Updates row update) ts is fits = omega arith
late-kept c now k (Forgets row) ts is fits = omega arith
late-kept c now k (Binds row peer end renew) ts is fits = absurd cc
late-kept c now k (Unbinds row peer) ts is fits =
    let one : late now (without_timer (works.Renew row) ts) ≤ late now ts = filter_late (λ t. not (is_of (works.Renew row) t)) now ts in
    let two : late now (without_timer (works.End row) (without_timer (works.Renew row) ts)) ≤ late now (without_timer (works.Renew row) ts) = filter_late (λ t. not (is_of (works.End row) t)) now (without_timer (works.Renew row) ts) in
    omega (arith, one, two)
late-kept c now k (Waits work wait) ts is fits = let positive : 0 < wait = fits.0 in with_late now (later now wait) work ts (omega (arith, positive))
late-kept c now k (Stops work) ts is fits = filter_late (λ t. not (is_of work t)) now ts
late-kept c now k (Rings work) ts is fits = due_less now ts

-- the transition is at this moment, and so many timers at most are due
record AreFew (now n : ℕ) (t : Transition) : Type 0 where
  moment : t.now ≡ now
  few : late now t.known.list.timers ≤ n
  order : AreInOrder t.known.list.timers

timers-noted : (step : Step) (t : Transition) → (noted step t).known.list.timers ≡ timers_after t.known.list.timers t.now step
unfolding after
timers-noted step t = ap (λ (k : Known). k.list.timers) (noted-known after step t)

few-noted : (c : Call) (now n : ℕ) → Goes c (AreFew now n)
few-noted c now n step t is fits few =
    let one : late t.now (timers_after t.known.list.timers t.now step) ≤ late t.now t.known.list.timers = late-kept c t.now t.known step t.known.list.timers is fits in
    record {
      moment = noted-now after step t ∙ few.moment;
      few =
          subst (λ (ts : List Timer). late now ts ≤ n) (sym (timers-noted step t))
          (let two : late now (timers_after t.known.list.timers t.now step) ≤ late now t.known.list.timers = subst (λ (m : ℕ). late m (timers_after t.known.list.timers t.now step) ≤ late m t.known.list.timers) few.moment one in omega (arith, two, few.few));
      order = subst AreInOrder (sym (timers-noted step t)) (order-kept t.known.list.timers t.now step few.order);
    }

-- a timer that rings is no more among them
few-rings : (c : Call) (other : is_take c ≡ false) (now n : ℕ) (work : Work) (t : Transition) → due_work (moment t.now) t.known.list.timers ≡ Some work → AreFew now (suc n) t → AreFew now n (rings work t)
unfolding rings
few-rings c other now n work t is few =
    every-work c (AreFew now n) (few-noted c now n) other work (noted (Rings work) t)
    (record {
      moment = noted-now after (Rings work) t ∙ few.moment;
      few =
          subst (λ (ts : List Timer). late now ts ≤ n) (sym (timers-noted (Rings work) t))
          (let one : suc (late t.now (without_due (moment t.now) t.known.list.timers)) ≡ late t.now t.known.list.timers = due_late t.now work t.known.list.timers is in
          let two : suc (late now (without_due (moment t.now) t.known.list.timers)) ≡ late now t.known.list.timers = subst (λ (m : ℕ). suc (late m (without_due (moment t.now) t.known.list.timers)) ≡ late m t.known.list.timers) few.moment one in
          omega (arith, two, few.few));
      order = subst AreInOrder (sym (timers-noted (Rings work) t)) (order-kept t.known.list.timers t.now (Rings work) few.order);
    })

none-few : (now n : ℕ) (t : Transition) → due_work (moment t.now) t.known.list.timers ≡ None → AreFew now n t → AreFew now 0 t
none-few now n t is few = record {
  moment = few.moment;
  few = late-none now t.known.list.timers (subst (λ (m : ℕ). AreDueFrom (m + 1) t.known.list.timers) few.moment (none_due (moment t.now) t.known.list.timers few.order is));
  order = few.order;
}

few-ticks : (c : Call) (other : is_take c ≡ false) (now n : ℕ) (t : Transition) → AreFew now n t → AreFew now 0 (ticks n t)
unfolding ticks
few-ticks c other now zero t few = few
few-ticks c other now (suc n) t few = by (λ u q. few-ticks c other now n u q) (due_work (moment t.now) t.known.list.timers) refl
  where
    by : ((u : Transition) → AreFew now n u → AreFew now 0 (ticks n u)) → (work : Option Work) → due_work (moment t.now) t.known.list.timers ≡ work → AreFew now 0 (rings_on (ticks n) work t)
    by again None is = none-few now (suc n) t is few
    by again (Some work) is = again (rings work t) (few-rings c other now n work t is few)

-- a tick leaves nothing that is due
pub tick-empties : (k : Known) (now : ℕ) → AreInOrder k.list.timers → AreDueFrom (now + 1) (transition_of k now calls.Tick).known.list.timers
unfolding does ticks_all
tick-empties k now order =
    let first = noted (Called calls.Tick) (begun now k) in
    let same : first.known.list.timers ≡ k.list.timers = timers-noted (Called calls.Tick) (begun now k) in
    let n = length first.known.list.timers in
    let few = few-ticks calls.Tick refl now n first (record {
      moment = noted-now after (Called calls.Tick) (begun now k);
      few = late-length now first.known.list.timers;
      order = subst AreInOrder (sym same) order;
    }) in
    none-late now (ticks n first).known.list.timers few.few
