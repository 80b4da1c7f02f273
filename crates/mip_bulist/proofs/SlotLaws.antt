-- Timers in slots of their own: what each call on the chain does to the timers, and what it keeps.
use Rattle.std.proofs.Common.{◌≡◌, ◌≢◌, ℕ, ◌<◌, ◌+◌, Bool, true, false, sym, subst, ap, ◌∙◌, refl, List, ◌⊎◌, [], ◌∷◌, length, set, inl, inr, arith}
use Rattle.std.specs.Prelude.{cond, ◌==◌, ◌||◌, not, nat_lt, Option, Some, None, option_map, insert, slice_get}
use Rattle.std.specs.List.{AllByRecursion, position_or_len}
use Rattle.std.proofs.lemmas.Bool.{cases_eq}
use Rattle.std.proofs.lemmas.Bool.Decides.{nat_tests}
use Rattle.std.proofs.lemmas.List.{length-map, length-set, get_or-set_same, get_or-set_other}
use Rattle.std.proofs.lemmas.Option.{slice_get-get_or, slice_get_within, get_or_from_slice_get}
use Rattle.mip_words.specs.declared.moment.Moment.{Moment}
use Rattle.mip_chain.specs.declared.slot.Slot.{Slot}
use Rattle.mip_chain.specs.Chain.{Item, ChainSeen, find, put, without, retimed, retimed_from}
use Rattle.mip_chain.proofs.ItemLaws.{IsAbsent, without_absent}
use Rattle.mip_bulist.specs.declared.work.Work.{Work}
use Rattle.mip_bulist.specs.declared.timer.Timer.{Timer}
use Rattle.mip_bulist.specs.Timers.{number_of, IsInRange, is_set, is_of, without_timer, put_timer, with_timer, due_work, without_due, first_due, AreApart, IsSound}
use Rattle.mip_bulist.specs.Timers as timer_laws
use Rattle.mip_bulist.specs.Slots.{timer_of, timers_of, slot_of, AreListed, AreOfDifferentSlots, IsKept}
use Rattle.mip_bulist.proofs.WorkLaws.{one_work}
use Rattle.mip_bulist.proofs.TimerLaws.{place_is, at_more, number_below, with_sound, without_sound, room_left}

-- an item that is put among others, or taken out
all_put : (P : Item Work → Type 0) (x : Item Work) (ys : List (Item Work)) → P x → AllByRecursion P ys → AllByRecursion P (put x ys)
all_put P x [] here all = (here, tt)
all_put P x (y ∷ ys) here all =
    elim (nat_lt x.due y.due) as (λ b. AllByRecursion P (cond b (x ∷ (y ∷ ys)) (y ∷ put x ys))) [ true ↦ (here, all) | false ↦ (all.0, all_put P x ys here all.1) ]

all_without : (P : Item Work → Type 0) (slot : ℕ) (xs : List (Item Work)) → AllByRecursion P xs → AllByRecursion P (without slot xs)
all_without P slot [] all = tt
all_without P slot (x ∷ xs) all =
    elim (x.slot == slot) as (λ b. AllByRecursion P (cond b (without slot xs) (x ∷ without slot xs))) [ true ↦ all_without P slot xs all.1 | false ↦ (all.0, all_without P slot xs all.1) ]

absent_here : (slot : ℕ) (xs : List (Item Work)) → IsAbsent slot (without slot xs)
absent_here slot [] = tt
absent_here slot (x ∷ xs) =
    let P : Bool → Type 0 = λ b. (x.slot == slot) ≡ b → IsAbsent slot (cond b (without slot xs) (x ∷ without slot xs)) in
    (elim (x.slot == slot) as P [ true ↦ λ e. absent_here slot xs | false ↦ λ e. (grind (arith, nat_tests), absent_here slot xs) ]) refl

absent_of_none : (slot : ℕ) (xs : List (Item Work)) → find slot xs ≡ None → IsAbsent slot xs
absent_of_none slot [] e = tt
absent_of_none slot (x ∷ xs) e =
    let P : Bool → Type 0 = λ b. (x.slot == slot) ≡ b → cond b (Some x) (find slot xs) ≡ None → IsAbsent slot (x ∷ xs) in
    (elim (x.slot == slot) as P [ true ↦ λ _ no. absurd cc | false ↦ λ is none. (grind (arith, nat_tests), absent_of_none slot xs none) ]) refl e

different_put : (x : Item Work) (ys : List (Item Work)) → IsAbsent x.slot ys → AreOfDifferentSlots ys → AreOfDifferentSlots (put x ys)
different_put x [] absent d = (tt, tt)
different_put x (y ∷ ys) absent d =
    elim (nat_lt x.due y.due) as (λ b. AreOfDifferentSlots (cond b (x ∷ (y ∷ ys)) (y ∷ put x ys))) [
      | true ↦ (absent, d)
      | false ↦ (all_put (λ z. z.slot ≢ y.slot) x ys (λ e. absent.0 (sym e)) d.0, different_put x ys absent.1 d.1)
    ]

different_without : (slot : ℕ) (xs : List (Item Work)) → AreOfDifferentSlots xs → AreOfDifferentSlots (without slot xs)
different_without slot [] d = tt
different_without slot (x ∷ xs) d =
    elim (x.slot == slot) as (λ b. AreOfDifferentSlots (cond b (without slot xs) (x ∷ without slot xs))) [
      | true ↦ different_without slot xs d.1
      | false ↦ (all_without (λ z. z.slot ≢ x.slot) slot xs d.0, different_without slot xs d.1)
    ]

-- the timers of items that are put, found and taken out
put_at : (x : Item Work) (ys : List (Item Work)) → timers_of (put x ys) ≡ insert (timers_of ys) (position_or_len (λ u. nat_lt x.due u.due.0) (timers_of ys)) (timer_of x)
put_at x [] = refl
put_at x (y ∷ ys) =
    let t = timer_of x in
    let n = position_or_len (λ (u : Timer). nat_lt x.due u.due.0) (timers_of ys) in
    elim (nat_lt x.due y.due) as (λ b. timers_of (cond b (x ∷ (y ∷ ys)) (y ∷ put x ys)) ≡ insert (timer_of y ∷ timers_of ys) (cond (not b) (1 + n) 0) t) [
      | true ↦ refl
      | false ↦ ap (λ us. timer_of y ∷ us) (put_at x ys) ∙ sym (at_more n t (timer_of y) (timers_of ys))
    ]

timers_put : (x : Item Work) (ys : List (Item Work)) → timers_of (put x ys) ≡ put_timer (timer_of x) (timers_of ys)
timers_put x ys = put_at x ys ∙ ap (λ n. insert (timers_of ys) n (timer_of x)) (sym (place_is (record { 0 = x.due }) (timers_of ys)))

-- no timer is of this work
abbrev IsUnset : Work → List (Item Work) → Type 0
IsUnset work xs = AllByRecursion (λ x. number_of x.value ≢ number_of work) xs

unset : (work : Work) (xs : List (Item Work)) → slot_of work xs ≡ None → IsUnset work xs
unset work [] e = tt
unset work (x ∷ xs) e =
    let P : Bool → Type 0 = λ b. (number_of x.value == number_of work) ≡ b → cond b (Some x.slot) (slot_of work xs) ≡ None → IsUnset work (x ∷ xs) in
    (elim (number_of x.value == number_of work) as P [ true ↦ λ _ no. absurd cc | false ↦ λ is none. (grind (arith, nat_tests), unset work xs none) ]) refl e

none_set : (work : Work) (xs : List (Item Work)) → IsUnset work xs → slot_of work xs ≡ None
none_set work [] all = refl
none_set work (x ∷ xs) all = let more = none_set work xs all.1 in let first = all.0 in grind (arith, nat_tests, more)

unset_timers : (work : Work) (xs : List (Item Work)) → IsUnset work xs → without_timer work (timers_of xs) ≡ timers_of xs
unset_timers work [] all = refl
unset_timers work (x ∷ xs) all =
    let more = unset_timers work xs all.1 in
    let P : Bool → Type 0 = λ b. (number_of x.value == number_of work) ≡ b → cond (not b) (timer_of x ∷ without_timer work (timers_of xs)) (without_timer work (timers_of xs)) ≡ timer_of x ∷ timers_of xs in
    (elim (number_of x.value == number_of work) as P [ true ↦ λ e. absurd (all.0 (grind (arith, nat_tests))) | false ↦ λ e. ap (λ ts. timer_of x ∷ ts) more ]) refl

-- the slot of a work is that of one of the items
slot_apart : (work : Work) (slot q : ℕ) (xs : List (Item Work)) → slot_of work xs ≡ Some slot → IsAbsent q xs → slot ≢ q
slot_apart work slot q [] e absent = absurd cc
slot_apart work slot q (x ∷ xs) e absent =
    let P : Bool → Type 0 = λ b. cond b (Some x.slot) (slot_of work xs) ≡ Some slot → slot ≢ q in
    (elim (number_of x.value == number_of work) as P [
      | true ↦ λ is same. absurd (absent.0 (let e : x.slot ≡ slot = cc in e ∙ same))
      | false ↦ λ is. slot_apart work slot q xs is absent.1
    ]) e

-- works of other numbers
other_works : (n : ℕ) (xs : List (Item Work)) → timer_laws.IsAbsent n (timers_of xs) → AllByRecursion (λ x. number_of x.value ≢ n) xs
other_works n [] absent = tt
other_works n (x ∷ xs) absent = (absent.0, other_works n xs absent.1)

-- the item of a work is the first in its slot
first_there : (work : Work) (slot : ℕ) (x : Item Work) (xs : List (Item Work)) → slot_of work (x ∷ xs) ≡ Some slot → AreOfDifferentSlots (x ∷ xs) → ((x.value ≡ work) × (x.slot ≡ slot)) ⊎ ((x.slot ≢ slot) × (number_of x.value ≢ number_of work) × (slot_of work xs ≡ Some slot))
first_there work slot x xs e d =
    let P : Bool → Type 0 = λ b. (number_of x.value == number_of work) ≡ b → cond b (Some x.slot) (slot_of work xs) ≡ Some slot → ((x.value ≡ work) × (x.slot ≡ slot)) ⊎ ((x.slot ≢ slot) × (number_of x.value ≢ number_of work) × (slot_of work xs ≡ Some slot)) in
    (elim (number_of x.value == number_of work) as P [
      | true ↦ λ is here. inl (one_work x.value work (grind (arith, nat_tests)), cc)
      | false ↦ λ is more. inr (λ same. slot_apart work slot x.slot xs more d.0 (sym same), grind (arith, nat_tests), more)
    ]) refl e

-- where the item of a work is taken out, its timer is
pub timers_without : (work : Work) (slot : ℕ) (xs : List (Item Work)) → slot_of work xs ≡ Some slot → AreOfDifferentSlots xs → AreApart (timers_of xs) → timers_of (without slot xs) ≡ without_timer work (timers_of xs)
timers_without work slot [] e d a = refl
timers_without work slot (x ∷ xs) e d a = elim (first_there work slot x xs e d) [
  | inl here ↦
      let others : IsUnset work xs = subst (λ w. AllByRecursion (λ y. number_of y.value ≢ number_of w) xs) here.0 (other_works (number_of x.value) xs a.1) in
      let same : x.slot ≡ slot = here.1 in
      let gone : without slot (x ∷ xs) ≡ without slot xs = grind (arith, nat_tests) in
      let number : number_of x.value ≡ number_of work = ap number_of here.0 in
      let taken : without_timer work (timers_of (x ∷ xs)) ≡ without_timer work (timers_of xs) = grind (arith, nat_tests) in
      ap timers_of (gone ∙ without_absent slot xs (subst (λ s. IsAbsent s xs) same d.0)) ∙ sym (taken ∙ unset_timers work xs others)
  | inr more ↦
      let other : x.slot ≢ slot = more.0 in
      let others : number_of x.value ≢ number_of work = more.1 in
      let kept : without slot (x ∷ xs) ≡ x ∷ without slot xs = grind (arith, nat_tests) in
      let stays : without_timer work (timers_of (x ∷ xs)) ≡ timer_of x ∷ without_timer work (timers_of xs) = grind (arith, nat_tests) in
      ap timers_of kept ∙ ap (λ ts. timer_of x ∷ ts) (timers_without work slot xs more.2 d.1 a.2) ∙ sym stays
]

-- what is found in the slot of a work is its item
pub found_there : (work : Work) (slot due : ℕ) (xs ys : List (Item Work)) → slot_of work xs ≡ Some slot → AreOfDifferentSlots xs → retimed_from (find slot xs) due ys ≡ put (record { slot = slot; due = due; value = work }) (without slot ys)
found_there work slot due [] ys e d = absurd cc
found_there work slot due (x ∷ xs) ys e d = elim (first_there work slot x xs e d) [
  | inl here ↦
      let same : x.slot ≡ slot = here.1 in
      let found : find slot (x ∷ xs) ≡ Some x = grind (arith, nat_tests) in
      ap (λ o. retimed_from o due ys) found ∙ (λ i. put (record { slot = same i; due = due; value = here.0 i }) (without (same i) ys))
  | inr more ↦
      let other : x.slot ≢ slot = more.0 in
      let found : find slot (x ∷ xs) ≡ find slot xs = grind (arith, nat_tests) in
      ap (λ o. retimed_from o due ys) found ∙ found_there work slot due xs ys more.2 d.1
]

-- what the table says of a work
works_apart : (work : Work) (slot : Slot) (table : List Slot) (xs : List (Item Work)) → slice_get table (number_of work) ≡ Some slot → AreListed table xs → IsAbsent slot.0 xs → IsUnset work xs
works_apart work slot table [] e listed absent = tt
works_apart work slot table (x ∷ xs) e listed absent = (λ same. absent.0 (by same), works_apart work slot table xs e listed.1 absent.1)
  where
    by : number_of x.value ≡ number_of work → x.slot ≡ slot.0
    by same = let both : Some (record { 0 = x.slot }) ≡ Some slot = sym listed.0 ∙ ap (slice_get table) same ∙ e in let slots : (record { 0 = x.slot }) ≡ slot = cc in ap (λ (s : Slot). s.0) slots

pub unlisted : (work : Work) (table : List Slot) (xs : List (Item Work)) → slice_get table (number_of work) ≡ None → AreListed table xs → slot_of work xs ≡ None
unlisted work table xs e listed = none_set work xs (by xs listed)
  where
    by : (ys : List (Item Work)) → AreListed table ys → IsUnset work ys
    by [] listed = tt
    by (y ∷ ys) listed = (λ same. (let both : Some (record { 0 = y.slot }) ≡ None = sym listed.0 ∙ ap (slice_get table) same ∙ e in absurd cc), by ys listed.1)

-- this value is this work
abbrev pub is_work : Work → Option Work → Bool
is_work work None = false
is_work work (Some w) = number_of w == number_of work

looked : (work : Work) (slot : Slot) (table : List Slot) (xs : List (Item Work)) → slice_get table (number_of work) ≡ Some slot → AreListed table xs → AreOfDifferentSlots xs → slot_of work xs ≡ cond (is_work work (option_map (λ x. x.value) (find slot.0 xs))) (Some slot.0) None
looked work slot table [] e listed d = refl
looked work slot table (x ∷ xs) e listed d =
    elim (cases_eq x.slot slot.0) [
      | inl here ↦
          let found : find slot.0 (x ∷ xs) ≡ Some x = grind (arith, nat_tests) in
          let others = none_set work xs (works_apart work slot table xs e listed.1 (subst (λ s. IsAbsent s xs) here d.0)) in
          let P : Bool → Type 0 = λ b. cond b (Some x.slot) (slot_of work xs) ≡ cond b (Some slot.0) None in
          (elim (number_of x.value == number_of work) as P [ true ↦ ap Some here | false ↦ others ])
          ∙ ap (λ o. cond (is_work work (option_map (λ (y : Item Work). y.value) o)) (Some slot.0) None) (sym found)
      | inr other ↦
          let found : find slot.0 (x ∷ xs) ≡ find slot.0 xs = grind (arith, nat_tests) in
          let first = works_apart work slot table (x ∷ []) e (listed.0, tt) (other, tt) in
          let number : number_of x.value ≢ number_of work = first.0 in
          let more : slot_of work (x ∷ xs) ≡ slot_of work xs = grind (arith, nat_tests) in
          more ∙ looked work slot table xs e listed.1 d.1 ∙ ap (λ o. cond (is_work work (option_map (λ (y : Item Work). y.value) o)) (Some slot.0) None) (sym found)
    ]

pub looked_up : (work : Work) (slot : Slot) (table : List Slot) (xs : List (Item Work)) (o : Option Work) (b : Bool) → slice_get table (number_of work) ≡ Some slot → o ≡ option_map (λ x. x.value) (find slot.0 xs) → is_work work o ≡ b → AreListed table xs → AreOfDifferentSlots xs → slot_of work xs ≡ cond b (Some slot.0) None
looked_up work slot table xs o b e found is listed d =
    looked work slot table xs e listed d ∙ ap (λ p. cond (is_work work p) (Some slot.0) None) (sym found) ∙ ap (λ c. cond c (Some slot.0) None) is

-- the timer of a work is set anew
listed_at : (work : Work) (slot : ℕ) (table : List Slot) (xs : List (Item Work)) → slot_of work xs ≡ Some slot → AreListed table xs → slice_get table (number_of work) ≡ Some (record { 0 = slot })
listed_at work slot table [] e listed = absurd cc
listed_at work slot table (x ∷ xs) e listed =
    let P : Bool → Type 0 = λ b. (number_of x.value == number_of work) ≡ b → cond b (Some x.slot) (slot_of work xs) ≡ Some slot → slice_get table (number_of work) ≡ Some (record { 0 = slot }) in
    (elim (number_of x.value == number_of work) as P [
      | true ↦ λ is here.
          let same : x.slot ≡ slot = cc in
          let number : number_of x.value ≡ number_of work = grind (arith, nat_tests) in
          subst (λ n. slice_get table n ≡ Some (record { 0 = slot })) number (listed.0 ∙ (λ i. Some (record { 0 = same i })))
      | false ↦ λ is more. listed_at work slot table xs more listed.1
    ]) refl e

pub retimed_timers : (due : Moment) (work : Work) (slot : ℕ) (xs : List (Item Work)) → slot_of work xs ≡ Some slot → AreOfDifferentSlots xs → AreApart (timers_of xs) → timers_of (retimed slot due.0 xs) ≡ with_timer due work (timers_of xs)
retimed_timers due work slot xs e d a =
    ap timers_of (found_there work slot due.0 xs xs e d)
    ∙ timers_put (record { slot = slot; due = due.0; value = work }) (without slot xs)
    ∙ ap (put_timer (record { due = due; work = work })) (timers_without work slot xs e d a)

pub retimed_kept : (due : Moment) (work : Work) (slot : ℕ) (chain : ChainSeen Work) (table : List Slot) → IsInRange work → slot_of work chain.items ≡ Some slot → IsKept chain table → IsKept (record chain { items = retimed slot due.0 chain.items }) table
retimed_kept due work slot chain table range e k =
    let xs = chain.items in
    let x : Item Work = record { slot = slot; due = due.0; value = work } in
    let is = sym (found_there work slot due.0 xs xs e k.different) in
    let P : Item Work → Type 0 = λ y. slice_get table (number_of y.value) ≡ Some (record { 0 = y.slot }) in
    record {
      room = k.room;
      sound = subst IsSound (sym (retimed_timers due work slot xs e k.different k.sound.apart)) (with_sound due work (timers_of xs) range k.sound);
      listed = subst (AreListed table) is (all_put P x (without slot xs) (listed_at work slot table xs e k.listed) (all_without P slot xs k.listed));
      different = subst AreOfDifferentSlots is (different_put x (without slot xs) (absent_here slot xs) (different_without slot xs k.different));
    }

-- the timer of a work is stopped
pub taken_kept : (work : Work) (slot : ℕ) (chain : ChainSeen Work) (table : List Slot) → slot_of work chain.items ≡ Some slot → IsKept chain table → IsKept (record chain { items = without slot chain.items }) table
taken_kept work slot chain table e k =
    let xs = chain.items in
    record {
      room = k.room;
      sound = subst IsSound (sym (timers_without work slot xs e k.different k.sound.apart)) (without_sound work (timers_of xs) k.sound);
      listed = all_without (λ y. slice_get table (number_of y.value) ≡ Some (record { 0 = y.slot })) slot xs k.listed;
      different = different_without slot xs k.different;
    }

pub set_there : (work : Work) (slot : ℕ) (xs : List (Item Work)) → slot_of work xs ≡ Some slot → is_set work (timers_of xs) ≡ true
set_there work slot [] e = absurd cc
set_there work slot (x ∷ xs) e =
    let P : Bool → Type 0 = λ b. cond b (Some x.slot) (slot_of work xs) ≡ Some slot → (b || is_set work (timers_of xs)) ≡ true in
    (elim (number_of x.value == number_of work) as P [ true ↦ λ here. refl | false ↦ λ more. set_there work slot xs more ]) e

pub unset_there : (work : Work) (xs : List (Item Work)) → slot_of work xs ≡ None → is_set work (timers_of xs) ≡ false
unset_there work [] e = refl
unset_there work (x ∷ xs) e =
    let P : Bool → Type 0 = λ b. cond b (Some x.slot) (slot_of work xs) ≡ None → (b || is_set work (timers_of xs)) ≡ false in
    (elim (number_of x.value == number_of work) as P [ true ↦ λ here. absurd cc | false ↦ λ more. unset_there work xs more ]) e

pub stays : (work : Work) (xs : List (Item Work)) → slot_of work xs ≡ None → without_timer work (timers_of xs) ≡ timers_of xs
stays work xs e = unset_timers work xs (unset work xs e)

-- a timer is set in an empty slot
read_same : (table : List Slot) (n : ℕ) (slot : Slot) → n < length table → slice_get (set table n slot) n ≡ Some slot
read_same table n slot within =
    let long = length-set table n slot in
    slice_get-get_or (set table n slot) n slot (omega arith) ∙ ap Some (get_or-set_same table n slot slot within)

read_other : (table : List Slot) (n m : ℕ) (slot s : Slot) → m ≢ n → slice_get table m ≡ Some s → slice_get (set table n slot) m ≡ Some s
read_other table n m slot s other e =
    let within = slice_get_within table m s e in
    let long = length-set table n slot in
    slice_get-get_or (set table n slot) m s (omega arith) ∙ ap Some (get_or-set_other table n m slot s other ∙ get_or_from_slice_get table m s s e)

listed_more : (work : Work) (slot : Slot) (table : List Slot) (xs : List (Item Work)) → IsUnset work xs → AreListed table xs → AreListed (set table (number_of work) slot) xs
listed_more work slot table [] all listed = tt
listed_more work slot table (x ∷ xs) all listed =
    (read_other table (number_of work) (number_of x.value) slot (record { 0 = x.slot }) all.0 listed.0, listed_more work slot table xs all.1 listed.1)

pub added_timers : (due : Moment) (work : Work) (slot : ℕ) (xs : List (Item Work)) → slot_of work xs ≡ None → timers_of (put (record { slot = slot; due = due.0; value = work }) xs) ≡ with_timer due work (timers_of xs)
added_timers due work slot xs e = timers_put (record { slot = slot; due = due.0; value = work }) xs ∙ ap (put_timer (record { due = due; work = work })) (sym (stays work xs e))

pub added_kept : (due : Moment) (work : Work) (slot : ℕ) (chain : ChainSeen Work) (table : List Slot) → IsInRange work → length table ≡ 64 → slot_of work chain.items ≡ None → find slot chain.items ≡ None → IsKept chain table → IsKept (record chain { items = put (record { slot = slot; due = due.0; value = work }) chain.items }) (set table (number_of work) (record { 0 = slot }))
added_kept due work slot chain table range long e empty k =
    let xs = chain.items in
    let x : Item Work = record { slot = slot; due = due.0; value = work } in
    let s : Slot = record { 0 = slot } in
    let more : List Slot = set table (number_of work) s in
    let below = number_below work range in
    record {
      room = k.room;
      sound = subst IsSound (sym (added_timers due work slot xs e)) (with_sound due work (timers_of xs) range k.sound);
      listed = all_put (λ y. slice_get more (number_of y.value) ≡ Some (record { 0 = y.slot })) x xs (read_same table (number_of work) s (omega arith)) (listed_more work s table xs (unset work xs e) k.listed);
      different = different_put x xs (absent_of_none slot xs empty) k.different;
    }

-- a work that is not set finds an empty slot
pub slot_left : (work : Work) (chain : ChainSeen Work) (table : List Slot) → IsInRange work → slot_of work chain.items ≡ None → IsKept chain table → length chain.items ≢ chain.room
slot_left work chain table range e k full =
    let few = room_left work (timers_of chain.items) range k.sound in
    let same : length (without_timer work (timers_of chain.items)) ≡ length chain.items = ap length (stays work chain.items e) ∙ length-map chain.items timer_of in
    let room = k.room in
    omega arith
