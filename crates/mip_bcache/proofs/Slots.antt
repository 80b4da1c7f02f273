-- Rows in slots, and these slots in order of home.
use Rattle.std.proofs.Common.{◌≡◌, ◌≢◌, ℕ, ◌+◌, ◌<◌, ◌≤◌, List, [], ◌∷◌, Bool, true, false, length, refl, sym, ap, subst, ◌∙◌, inl, inr, arith}
use Rattle.std.specs.Prelude.{Option, Some, None, ◌==◌, if◌then◌else◌}
use Rattle.std.specs.List.{AllByRecursion}
use Rattle.std.proofs.lemmas.Bool.{cases_eq, cases_lt, false≢true}
use Rattle.std.proofs.lemmas.Bool.Decides.{nat_tests}
use Rattle.mip_binding.specs.Rows.{kept_by}
use Rattle.mip_binding.proofs.RowLaws.{length-kept}
use Rattle.mip_chain.specs.Chain.{Item, find, put, without, without_due}
use Rattle.mip_chain.specs.declared.slot.Slot.{Slot}
use Rattle.mip_bcache.specs.declared.home.Home.{Home}
use Rattle.mip_bcache.specs.Table.{live_in, count_of, count_in, due_of, add_home, homes_of, later, AreApart, has_slot, IsLoose}

abbrev pub Items : Type 0
Items = List (Item Home)

-- the item of a slot after a change
pub find_put_same : (x : Item Home) (ys : Items) → find x.slot ys ≡ None → find x.slot (put x ys) ≡ Some x
find_put_same x [] none = grind (arith, nat_tests)
find_put_same x (y ∷ ys) none =
    let more : find x.slot ys ≡ None → find x.slot (put x ys) ≡ Some x = find_put_same x ys in
    grind (arith, nat_tests, more)

pub find_put_other : (k : ℕ) (x : Item Home) (ys : Items) → x.slot ≢ k → find k (put x ys) ≡ find k ys
find_put_other k x [] other = grind (arith, nat_tests)
find_put_other k x (y ∷ ys) other =
    let more = find_put_other k x ys other in
    grind (arith, nat_tests, more)

pub find_without_other : (j k : ℕ) (xs : Items) → k ≢ j → find j (without k xs) ≡ find j xs
find_without_other j k [] other = refl
find_without_other j k (x ∷ xs) other =
    let more = find_without_other j k xs other in
    grind (arith, nat_tests, more)

pub find_without_none : (j k : ℕ) (xs : Items) → find j xs ≡ None → find j (without k xs) ≡ None
find_without_none j k [] none = refl
find_without_none j k (x ∷ xs) none =
    let more : find j xs ≡ None → find j (without k xs) ≡ None = find_without_none j k xs in
    grind (arith, nat_tests, more)

-- rows are the values of the slots' items alone
pub rows_agree : (old new : Items) (ss : List Slot) → AllByRecursion (λ s. find s.0 new ≡ find s.0 old) ss → homes_of new ss ≡ homes_of old ss
rows_agree old new [] same = refl
rows_agree old new (s ∷ ss) same =
    ap (λ (o : Option (Item Home)). add_home o (homes_of new ss)) same.0 ∙ ap (add_home (find s.0 old)) (rows_agree old new ss same.1)

all_found : (P : Home → Type 0) (k : ℕ) (xs : Items) (rows : List Home) → AllByRecursion (λ x. P x.value) xs → AllByRecursion P rows → AllByRecursion P (add_home (find k xs) rows)
all_found P k [] rows holds rest = rest
all_found P k (x ∷ xs) rows holds rest = pick (x.slot == k) (all_found P k xs rows holds.1 rest)
  where
    pick : (b : Bool) → AllByRecursion P (add_home (find k xs) rows) → AllByRecursion P (add_home (if b then Some x else find k xs) rows)
    pick true more = (holds.0, rest)
    pick false more = more

-- what holds of all items' values holds of all rows
pub all_homes : (P : Home → Type 0) (items : Items) (ss : List Slot) → AllByRecursion (λ x. P x.value) items → AllByRecursion P (homes_of items ss)
all_homes P items [] all = tt
all_homes P items (s ∷ ss) all = all_found P s.0 items (homes_of items ss) all (all_homes P items ss all)

-- all rows are kept where none is over
pub kept_all : (now : ℕ) (rows : List Home) → AllByRecursion (λ r. now < due_of r) rows → kept_by due_of now rows ≡ rows
kept_all now [] all = refl
kept_all now (r ∷ rs) all =
    let more = kept_all now rs all.1 in
    let first = all.0 in
    grind (arith, nat_tests, more)

-- items behind one that is not due are not due
due_later : (now due : ℕ) (xs : Items) → now < due → AllByRecursion (λ y. due ≤ y.due) xs → AllByRecursion (λ y. y.due ≡ due_of y.value) xs → AllByRecursion (λ y. now < due_of y.value) xs
due_later now due [] less rises same = tt
due_later now due (x ∷ xs) less rises same =
    let first = rises.0 in
    let is = same.0 in
    (omega arith, due_later now due xs less rises.1 same.1)

pub tail_loose : (x : Item Home) (xs : Items) (ss : List Slot) → IsLoose (x ∷ xs) ss → IsLoose xs ss
tail_loose x xs ss loose = record {
  apart = loose.apart;
  slots = loose.slots.1;
  inside = loose.inside.1;
  due = loose.due.1;
  order = loose.order.1;
}

-- where the first item is not due, all rows are kept
pub none_over : (now : ℕ) (x : Item Home) (xs : Items) (ss : List Slot) → IsLoose (x ∷ xs) ss → now < x.due → kept_by due_of now (homes_of (x ∷ xs) ss) ≡ homes_of (x ∷ xs) ss
none_over now x xs ss loose less =
    let is = loose.due.0 in
    let first : now < due_of x.value = omega arith in
    kept_all now (homes_of (x ∷ xs) ss) (all_homes (λ (r : Home). now < due_of r) (x ∷ xs) ss (first, due_later now x.due xs less loose.order.0 loose.due.1))

-- a row that is over may leave its slot
pub one_over : (now : ℕ) (x : Item Home) (xs : Items) (ss : List Slot) → find x.slot xs ≡ None → due_of x.value ≤ now → kept_by due_of now (homes_of (x ∷ xs) ss) ≡ kept_by due_of now (homes_of xs ss)
one_over now x xs [] none over = refl
one_over now x xs (s ∷ ss) none over = elim (cases_eq x.slot s.0) [
  | inl same ↦
      let first : find s.0 (x ∷ xs) ≡ Some x = grind (arith, nat_tests) in
      let gone : find s.0 xs ≡ None = subst (λ (k : ℕ). find k xs ≡ None) same none in
      ap (λ (o : Option (Item Home)). kept_by due_of now (add_home o (homes_of (x ∷ xs) ss))) first
      ∙ dropped (homes_of (x ∷ xs) ss)
      ∙ one_over now x xs ss none over
      ∙ sym (ap (λ (o : Option (Item Home)). kept_by due_of now (add_home o (homes_of xs ss))) gone)
  | inr other ↦
      let first : find s.0 (x ∷ xs) ≡ find s.0 xs = grind (arith, nat_tests) in
      ap (λ (o : Option (Item Home)). kept_by due_of now (add_home o (homes_of (x ∷ xs) ss))) first
      ∙ behind (find s.0 xs) (homes_of (x ∷ xs) ss) (homes_of xs ss) (one_over now x xs ss none over)
]
  where
    dropped : (rows : List Home) → kept_by due_of now (x.value ∷ rows) ≡ kept_by due_of now rows
    dropped rows = grind (arith, nat_tests)

    behind : (o : Option (Item Home)) (rs ts : List Home) → kept_by due_of now rs ≡ kept_by due_of now ts → kept_by due_of now (add_home o rs) ≡ kept_by due_of now (add_home o ts)
    behind None rs ts same = same
    behind (Some y) rs ts same = grind (arith, nat_tests)

-- rows that are over may leave their slots
pub rows_later : (now : ℕ) (items : Items) (ss : List Slot) → IsLoose items ss → kept_by due_of now (homes_of items ss) ≡ homes_of (later now items) ss
rows_later now [] ss loose = no_rows ss
  where
    no_rows : (ts : List Slot) → kept_by due_of now (homes_of [] ts) ≡ homes_of [] ts
    no_rows [] = refl
    no_rows (t ∷ ts) = no_rows ts
rows_later now (x ∷ xs) ss loose = elim (cases_lt now x.due) [
  | inl less ↦
      let stays : later now (x ∷ xs) ≡ x ∷ xs = grind (arith, nat_tests) in
      none_over now x xs ss loose less ∙ sym (ap (λ (ys : Items). homes_of ys ss) stays)
  | inr over ↦
      let is = loose.due.0 in
      let goes : later now (x ∷ xs) ≡ later now xs = grind (arith, nat_tests) in
      one_over now x xs ss loose.slots.0 (omega arith)
      ∙ rows_later now xs ss (tail_loose x xs ss loose)
      ∙ sym (ap (λ (ys : Items). homes_of ys ss) goes)
]

pub loose_later : (now : ℕ) (items : Items) (ss : List Slot) → IsLoose items ss → IsLoose (later now items) ss
loose_later now [] ss loose = loose
loose_later now (x ∷ xs) ss loose = elim (cases_lt now x.due) [
  | inl less ↦ let stays : later now (x ∷ xs) ≡ x ∷ xs = grind (arith, nat_tests) in subst (λ (ys : Items). IsLoose ys ss) (sym stays) loose
  | inr over ↦ let goes : later now (x ∷ xs) ≡ later now xs = grind (arith, nat_tests) in subst (λ (ys : Items). IsLoose ys ss) (sym goes) (loose_later now xs ss (tail_loose x xs ss loose))
]

-- an item whose slot is none of these has no row
unread : (x : Item Home) (xs : Items) (ss : List Slot) → AllByRecursion (λ t. t.0 ≢ x.slot) ss → homes_of (x ∷ xs) ss ≡ homes_of xs ss
unread x xs [] out = refl
unread x xs (s ∷ ss) out =
    let first = out.0 in
    let same : find s.0 (x ∷ xs) ≡ find s.0 xs = grind (arith, nat_tests) in
    ap (λ (o : Option (Item Home)). add_home o (homes_of (x ∷ xs) ss)) same ∙ ap (add_home (find s.0 xs)) (unread x xs ss out.1)

one_more : (x : Item Home) (xs : Items) (ss : List Slot) → AreApart ss → find x.slot xs ≡ None → has_slot x.slot ss ≡ true → length (homes_of (x ∷ xs) ss) ≡ 1 + length (homes_of xs ss)
one_more x xs [] apart none inside = absurd (false≢true inside)
one_more x xs (s ∷ ss) apart none inside = elim (cases_eq s.0 x.slot) [
  | inl same ↦
      let first : find s.0 (x ∷ xs) ≡ Some x = grind (arith, nat_tests) in
      let gone : find s.0 xs ≡ None = subst (λ (k : ℕ). find k xs ≡ None) (sym same) none in
      let rest = unread x xs ss (subst (λ (k : ℕ). AllByRecursion (λ t. t.0 ≢ k) ss) same apart.0) in
      ap (λ (o : Option (Item Home)). length (add_home o (homes_of (x ∷ xs) ss))) first
      ∙ ap (λ (rs : List Home). length (x.value ∷ rs)) rest
      ∙ counts (homes_of xs ss)
      ∙ sym (ap (λ (o : Option (Item Home)). 1 + length (add_home o (homes_of xs ss))) gone)
  | inr other ↦
      let first : find s.0 (x ∷ xs) ≡ find s.0 xs = grind (arith, nat_tests) in
      let behind : has_slot x.slot ss ≡ true = grind (arith, nat_tests) in
      ap (λ (o : Option (Item Home)). length (add_home o (homes_of (x ∷ xs) ss))) first
      ∙ more (find s.0 xs) (homes_of (x ∷ xs) ss) (homes_of xs ss) (one_more x xs ss apart.1 none behind)
]
  where
    counts : (rs : List Home) → length (x.value ∷ rs) ≡ 1 + length rs
    counts rs = omega arith

    more : (o : Option (Item Home)) (rs ts : List Home) → length rs ≡ 1 + length ts → length (add_home o rs) ≡ 1 + length (add_home o ts)
    more None rs ts e = e
    more (Some y) rs ts e = omega arith

-- there are as many rows as items
pub length_rows : (items : Items) (ss : List Slot) → IsLoose items ss → length (homes_of items ss) ≡ length items
length_rows [] ss loose = none ss
  where
    none : (ts : List Slot) → length (homes_of [] ts) ≡ 0
    none [] = refl
    none (t ∷ ts) = none ts
length_rows (x ∷ xs) ss loose =
    let more = length_rows xs ss (tail_loose x xs ss loose) in
    let one = one_more x xs ss loose.apart loose.slots.0 loose.inside.0 in
    omega arith

one_counted : (x : Item Home) (xs : Items) (ss : List Slot) → AreApart ss → find x.slot xs ≡ None → has_slot x.slot ss ≡ true → count_of (homes_of (x ∷ xs) ss) ≡ length (live_in x.value) + count_of (homes_of xs ss)
one_counted x xs [] apart none inside = absurd (false≢true inside)
one_counted x xs (s ∷ ss) apart none inside = elim (cases_eq s.0 x.slot) [
  | inl same ↦
      let first : find s.0 (x ∷ xs) ≡ Some x = grind (arith, nat_tests) in
      let gone : find s.0 xs ≡ None = subst (λ (k : ℕ). find k xs ≡ None) (sym same) none in
      let rest = unread x xs ss (subst (λ (k : ℕ). AllByRecursion (λ t. t.0 ≢ k) ss) same apart.0) in
      ap (λ (o : Option (Item Home)). count_of (add_home o (homes_of (x ∷ xs) ss))) first
      ∙ ap (λ (hs : List Home). count_of (x.value ∷ hs)) rest
      ∙ sym (ap (λ (o : Option (Item Home)). length (live_in x.value) + count_of (add_home o (homes_of xs ss))) gone)
  | inr other ↦
      let first : find s.0 (x ∷ xs) ≡ find s.0 xs = grind (arith, nat_tests) in
      let behind : has_slot x.slot ss ≡ true = grind (arith, nat_tests) in
      ap (λ (o : Option (Item Home)). count_of (add_home o (homes_of (x ∷ xs) ss))) first
      ∙ more (find s.0 xs) (homes_of (x ∷ xs) ss) (homes_of xs ss) (one_counted x xs ss apart.1 none behind)
]
  where
    more : (o : Option (Item Home)) (hs gs : List Home) → count_of hs ≡ length (live_in x.value) + count_of gs → count_of (add_home o hs) ≡ length (live_in x.value) + count_of (add_home o gs)
    more None hs gs e = e
    more (Some y) hs gs e = omega arith

-- there are as many rows in the table as in the slots
pub count_homes : (items : Items) (ss : List Slot) → IsLoose items ss → count_of (homes_of items ss) ≡ count_in items
count_homes [] ss loose = none ss
  where
    none : (ts : List Slot) → count_of (homes_of [] ts) ≡ 0
    none [] = refl
    none (t ∷ ts) = none ts
count_homes (x ∷ xs) ss loose =
    let more = count_homes xs ss (tail_loose x xs ss loose) in
    let one = one_counted x xs ss loose.apart loose.slots.0 loose.inside.0 in
    omega arith

-- where the first item is due, fewer rows are kept than there are items
pub fewer_kept : (now : ℕ) (x : Item Home) (xs : Items) (ss : List Slot) → IsLoose (x ∷ xs) ss → x.due ≤ now → length (kept_by due_of now (homes_of (x ∷ xs) ss)) < length (x ∷ xs)
fewer_kept now x xs ss loose over =
    let is = loose.due.0 in
    let same = ap (λ (rs : List Home). length rs) (one_over now x xs ss loose.slots.0 (omega arith)) in
    let few = length-kept due_of now (homes_of xs ss) in
    let rest = length_rows xs ss (tail_loose x xs ss loose) in
    omega arith

-- the first item leaves, or none
pub length_without_due : (now : ℕ) (xs : Items) → length (without_due now xs) ≤ length xs
length_without_due now [] = omega arith
length_without_due now (x ∷ xs) = grind (arith, nat_tests)
