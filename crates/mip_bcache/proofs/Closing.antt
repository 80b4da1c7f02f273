-- What is left of a table where slots were emptied.
use Rattle.std.proofs.Common.{◌≡◌, ◌≢◌, ℕ, ◌+◌, ◌<◌, ◌≤◌, List, [], ◌∷◌, Bool, true, false, length, length-append, refl, sym, ap, subst, ◌∙◌, inl, inr, arith}
use Rattle.std.specs.Prelude.{Option, Some, None, is_some, nat_lt, ◌==◌, if◌then◌else◌, filter}
use Rattle.std.specs.List.{AllByRecursion}
use Rattle.std.proofs.lemmas.Bool.{cases_eq, cases_lt}
use Rattle.std.proofs.lemmas.Bool.Decides.{nat_tests}
use Rattle.mip_binding.proofs.RowLaws.{length-kept, rises-kept}
use Rattle.mip_binding.specs.Rows.{kept_by}
use Rattle.std.specs.Global.{Vec}
use Rattle.mip_chain.specs.Chain.{Item, find, first_due}
use Rattle.mip_chain.specs.declared.slot.Slot.{Slot}
use Rattle.mip_chain.proofs.Paths.{all_map}
use Rattle.mip_bcache.specs.declared.row.Row.{Row}
use Rattle.mip_bcache.specs.declared.home.Home.{Home}
use Rattle.mip_bcache.specs.Table.{due_of, IsSound, TableSeen, add_home, homes_of, homes_in, later, AreApart, has_slot, IsFilled, IsLoose, IsTable, live_in, key_of, count_of, count_in, IsStocked}
use Rattle.mip_bcache.proofs.Slots.{Items, rows_later, loose_later, length_rows, count_homes, none_over, fewer_kept}

-- homes whose sequence is kept are in order as all are
sound_kept : (limit now : ℕ) (hs : List Home) → IsSound limit hs → IsSound limit (kept_by due_of now hs)
sound_kept limit now hs sound = record {
  rises = rises-kept key_of due_of now hs sound.rises;
  room = let shorter = length-kept due_of now hs in let room = sound.room in omega arith;
}

-- a slot has an item
abbrev pub is_filled : Items → Slot → Bool
is_filled items s = is_some (find s.0 items)

abbrev pub closed : Items → List Slot → List Slot
closed items ss = filter (is_filled items) ss

closed_rows : (items : Items) (ss : List Slot) → homes_of items (closed items ss) ≡ homes_of items ss
closed_rows items [] = refl
closed_rows items (s ∷ ss) = by (find s.0 items) refl (closed_rows items ss)
  where
    by : (o : Option (Item Home)) → find s.0 items ≡ o → homes_of items (closed items ss) ≡ homes_of items ss → homes_of items (if is_some (find s.0 items) then s ∷ closed items ss else closed items ss) ≡ add_home (find s.0 items) (homes_of items ss)
    by None is more = let e = ap (λ (u : Option (Item Home)). is_some u) is in grind (arith, nat_tests, more, e, is)
    by (Some x) is more = let e = ap (λ (u : Option (Item Home)). is_some u) is in grind (arith, nat_tests, more, e, is)

all_closed : (P : Slot → Type 0) (items : Items) (ss : List Slot) → AllByRecursion P ss → AllByRecursion P (closed items ss)
all_closed P items [] all = tt
all_closed P items (s ∷ ss) all = by (is_filled items s) (all_closed P items ss all.1)
  where
    by : (b : Bool) → AllByRecursion P (closed items ss) → AllByRecursion P (if b then s ∷ closed items ss else closed items ss)
    by true more = (all.0, more)
    by false more = more

closed_filled : (items : Items) (ss : List Slot) → AllByRecursion (IsFilled items) (closed items ss)
closed_filled items [] = tt
closed_filled items (s ∷ ss) = by (is_filled items s) refl (closed_filled items ss)
  where
    by : (b : Bool) → is_filled items s ≡ b → AllByRecursion (IsFilled items) (closed items ss) → AllByRecursion (IsFilled items) (if b then s ∷ closed items ss else closed items ss)
    by true is more = (is, more)
    by false is more = more

closed_apart : (items : Items) (ss : List Slot) → AreApart ss → AreApart (closed items ss)
closed_apart items [] apart = tt
closed_apart items (s ∷ ss) apart = by (is_filled items s) (closed_apart items ss apart.1)
  where
    by : (b : Bool) → AreApart (closed items ss) → AreApart (if b then s ∷ closed items ss else closed items ss)
    by true more = (all_closed (λ t. t.0 ≢ s.0) items ss apart.0, more)
    by false more = more

closed_has : (items : Items) (k : ℕ) (ss : List Slot) → is_some (find k items) ≡ true → has_slot k ss ≡ true → has_slot k (closed items ss) ≡ true
closed_has items k [] some inside = inside
closed_has items k (s ∷ ss) some inside = elim (cases_eq s.0 k) [
  | inl same ↦
      let full : is_filled items s ≡ true = subst (λ (j : ℕ). is_some (find j items) ≡ true) (sym same) some in
      grind (arith, nat_tests, full)
  | inr other ↦
      let behind : has_slot k ss ≡ true = grind (arith, nat_tests) in
      by (is_filled items s) (closed_has items k ss some behind)
]
  where
    by : (b : Bool) → has_slot k (closed items ss) ≡ true → has_slot k (if b then s ∷ closed items ss else closed items ss) ≡ true
    by true more = grind (arith, nat_tests, more)
    by false more = more

-- each item is found by its slot
all_own : (items : Items) → AllByRecursion (λ x. is_some (find x.slot items) ≡ true) items
all_own [] = tt
all_own (x ∷ xs) = (grind (arith, nat_tests), all_map (λ (y : Item Home). is_some (find y.slot xs) ≡ true) (λ (y : Item Home). is_some (find y.slot (x ∷ xs)) ≡ true) xs (λ y some. grind (arith, nat_tests, some)) (all_own xs))

all_pair : (P Q : Item Home → Type 0) (xs : Items) → AllByRecursion P xs → AllByRecursion Q xs → AllByRecursion (λ x. P x × Q x) xs
all_pair P Q [] ps qs = tt
all_pair P Q (x ∷ xs) ps qs = ((ps.0, qs.0), all_pair P Q xs ps.1 qs.1)

closed_loose : (items : Items) (ss : List Slot) → IsLoose items ss → IsLoose items (closed items ss)
closed_loose items ss loose = record {
  apart = closed_apart items ss loose.apart;
  slots = loose.slots;
  inside =
      all_map (λ (x : Item Home). (is_some (find x.slot items) ≡ true) × (has_slot x.slot ss ≡ true)) (λ (x : Item Home). has_slot x.slot (closed items ss) ≡ true) items
      (λ x both. closed_has items x.slot ss both.0 both.1)
      (all_pair (λ (x : Item Home). is_some (find x.slot items) ≡ true) (λ (x : Item Home). has_slot x.slot ss ≡ true) items (all_own items) loose.inside);
  due = loose.due;
  order = loose.order;
}

-- where no slot is empty, all stay
closed_all : (items : Items) (ss : List Slot) → AllByRecursion (IsFilled items) ss → closed items ss ≡ ss
closed_all items [] filled = refl
closed_all items (s ∷ ss) filled =
    let more = closed_all items ss filled.1 in
    let first = filled.0 in
    grind (arith, nat_tests, more, first)

-- a home has a row
pub some_row : (h : Home) → 1 ≤ length (live_in h)
some_row h = let long = length-append h.others.items (h.last ∷ []) in omega arith

no_more : (now : ℕ) (xs : Items) → count_in (later now xs) ≤ count_in xs
no_more now [] = omega arith
no_more now (x ∷ xs) = let more = no_more now xs in grind (arith, nat_tests, more)

-- where as many rows are left, all homes are
same_later : (now : ℕ) (xs : Items) → count_in (later now xs) ≡ count_in xs → later now xs ≡ xs
same_later now [] same = refl
same_later now (x ∷ xs) same = elim (cases_lt now x.due) [
  | inl less ↦ grind (arith, nat_tests)
  | inr over ↦
      let goes : later now (x ∷ xs) ≡ later now xs = grind (arith, nat_tests) in
      let fewer = no_more now xs in
      let as_many = ap (λ (ys : Items). count_in ys) goes in
      let some = some_row x.value in
      absurd (omega arith)
]

-- the table without the homes that are over, whose memory is spare
abbrev pub given_up : ℕ → TableSeen → List (Vec Row) → ℕ → TableSeen
given_up now t spare shelf = record {
  room = t.room;
  numbers = t.numbers;
  chain = record { room = t.chain.room; items = later now t.chain.items };
  homes = closed (later now t.chain.items) t.homes;
  capacity = t.capacity;
  spare = spare;
  shelf = shelf;
}

module _ (now : ℕ) (t : TableSeen) (table : IsTable t) where
  -- where no row leaves, no slot does
  pub closed_same : count_in (later now t.chain.items) ≡ count_in t.chain.items → t.homes ≡ closed (later now t.chain.items) t.homes
  closed_same same =
      sym (closed_all (later now t.chain.items) t.homes (subst (λ (ys : Items). AllByRecursion (IsFilled ys) t.homes) (sym (same_later now t.chain.items same)) table.filled))

  loose_left : IsLoose (later now t.chain.items) (closed (later now t.chain.items) t.homes)
  loose_left = closed_loose (later now t.chain.items) t.homes (loose_later now t.chain.items t.homes table.loose)

  pub homes_left : homes_of (later now t.chain.items) (closed (later now t.chain.items) t.homes) ≡ kept_by due_of now (homes_in t)
  homes_left = closed_rows (later now t.chain.items) t.homes ∙ sym (rows_later now t.chain.items t.homes table.loose)

  pub table_left : (spare : List (Vec Row)) (shelf : ℕ) → IsStocked t.numbers t.room (later now t.chain.items) spare shelf → IsTable (given_up now t spare shelf)
  table_left spare shelf stock = record {
    loose = loose_left;
    stock = stock;
    filled = closed_filled (later now t.chain.items) t.homes;
    sound = subst (IsSound t.room) (sym homes_left) (sound_kept t.room now (homes_in t) table.sound);
    room = table.room;
    capacity = table.capacity;
    some = table.some;
  }

  -- as many rows as items had leave
  pub count_left : (n : ℕ) → n + count_in (later now t.chain.items) ≡ count_in t.chain.items → n + count_of (homes_of (later now t.chain.items) (closed (later now t.chain.items) t.homes)) ≡ count_of (homes_in t)
  count_left n count =
      let old = count_homes t.chain.items t.homes table.loose in
      let new = count_homes (later now t.chain.items) (closed (later now t.chain.items) t.homes) loose_left in
      omega arith

-- whether there are as many kept rows as there is room for
module _ (now room : ℕ) (items : Items) (ss : List Slot) (loose : IsLoose items ss) (few : length (homes_of items ss) ≤ room) where
  pub taken_few : length items < room → false ≡ (length (kept_by due_of now (homes_of items ss)) == room)
  taken_few less =
      let kept = length-kept due_of now (homes_of items ss) in
      let same = length_rows items ss loose in
      grind (arith, nat_tests)

pub taken_none : (now room : ℕ) (items : Items) (ss : List Slot) → IsLoose items ss → length (homes_of items ss) ≤ room → room ≤ length items → None ≡ first_due items → true ≡ (length (kept_by due_of now (homes_of items ss)) == room)
taken_none now room [] ss loose few many none =
    let kept = length-kept due_of now (homes_of [] ss) in
    let same = length_rows [] ss loose in
    let empty : length (kept_by due_of now (homes_of [] ss)) ≡ room = omega arith in
    grind (arith, nat_tests)
taken_none now room (x ∷ xs) ss loose few many none = absurd cc

pub taken_first : (now room due : ℕ) (items : Items) (ss : List Slot) → IsLoose items ss → length (homes_of items ss) ≤ room → room ≤ length items → Some due ≡ first_due items → nat_lt now due ≡ (length (kept_by due_of now (homes_of items ss)) == room)
taken_first now room due [] ss loose few many first = absurd cc
taken_first now room due (x ∷ xs) ss loose few many first =
    let is : due ≡ x.due = cc in
    let same = length_rows (x ∷ xs) ss loose in
    elim (cases_lt now x.due) [
      | inl less ↦
          let kept = ap (λ (rs : List Home). length rs) (none_over now x xs ss loose less) in
          let full : length (kept_by due_of now (homes_of (x ∷ xs) ss)) ≡ room = omega arith in
          grind (arith, nat_tests)
      | inr over ↦
          let fewer = fewer_kept now x xs ss loose over in
          let other : length (kept_by due_of now (homes_of (x ∷ xs) ss)) < room = omega arith in
          grind (arith, nat_tests)
    ]
