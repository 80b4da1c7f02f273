-- What a table is with a row more, or another one in the place of its home's.
use Rattle.std.proofs.Common.{◌≡◌, ◌≢◌, ℕ, zero, suc, ◌+◌, ◌<◌, ◌≤◌, List, [], ◌∷◌, Bool, true, false, length, get_or, set, refl, sym, ap, subst, ◌∙◌, inl, inr, arith}
use Rattle.std.specs.Prelude.{Option, Some, None, is_some, ◌==◌, slice_get, not, ◌&&◌, if◌then◌else◌}
use Rattle.std.specs.List.{AllByRecursion, insert}
use Rattle.std.proofs.lemmas.Bool.{cases_eq, cases_lt, false≢true}
use Rattle.std.proofs.lemmas.Bool.Decides.{nat_tests}
use Rattle.std.specs.Global.{Vec}
use Rattle.mip_binding.specs.Rows.{find_by, put_by}
use Rattle.mip_binding.proofs.PlaceLaws.{all_at}
use Rattle.mip_binding.proofs.RowLaws.{rises-put, length-put}
use Rattle.mip_chain.specs.Chain.{Item, find, put, without}
use Rattle.mip_chain.specs.declared.slot.Slot.{Slot}
use Rattle.mip_chain.proofs.Paths.{all_map}
use Rattle.mip_chain.proofs.ItemLaws.{put_order, without_order}
use Rattle.mip_bcache.specs.declared.row.Row.{Row}
use Rattle.mip_bcache.specs.declared.home.Home.{Home}
use Rattle.mip_bcache.specs.Seen.{no_room}
use Rattle.mip_bcache.specs.Table.{key_of, due_of, IsSound, IsPlace, IsGap, TableSeen, add_home, homes_of, homes_in, item_for, AreApart, HaveSlots, has_slot, IsFilled, IsTable, IsHome, IsSpare, IsLoose}
use Rattle.mip_bcache.proofs.Slots.{Items, find_put_same, find_put_other, find_without_other, find_without_none, rows_agree, length_rows}

-- lists with an item more, or another one at a place
module _ {X : Type 0} where
  all_set : (P : X → Type 0) (xs : List X) (at : ℕ) (x : X) → P x → AllByRecursion P xs → AllByRecursion P (set xs at x)
  all_set P [] at x here all = tt
  all_set P (y ∷ ys) zero x here all = (here, all.1)
  all_set P (y ∷ ys) (suc at) x here all = (all.0, all_set P ys at x here all.1)

  all_insert : (P : X → Type 0) (xs : List X) (at : ℕ) (x : X) → P x → AllByRecursion P xs → at ≤ length xs → AllByRecursion P (insert xs at x)
  all_insert P xs zero x here all inside = (here, all)
  all_insert P [] (suc at) x here all inside = absurd (omega arith)
  all_insert P (y ∷ ys) (suc at) x here all inside = (all.0, all_insert P ys at x here all.1 (omega arith))

  all_put : (P : Item X → Type 0) (x : Item X) (ys : List (Item X)) → P x → AllByRecursion P ys → AllByRecursion P (put x ys)
  all_put P x [] here all = (here, tt)
  all_put P x (y ∷ ys) here all = elim (cases_lt x.due y.due) [
    | inl less ↦ let e : put x (y ∷ ys) ≡ x ∷ (y ∷ ys) = grind (arith, nat_tests) in subst (AllByRecursion P) (sym e) (here, all)
    | inr more ↦ let e : put x (y ∷ ys) ≡ y ∷ put x ys = grind (arith, nat_tests) in subst (AllByRecursion P) (sym e) (all.0, all_put P x ys here all.1)
  ]

  -- the items that are left are of other slots
  all_without : (P : Item X → Type 0) (k : ℕ) (xs : List (Item X)) → AllByRecursion P xs → AllByRecursion (λ x. (x.slot ≢ k) × P x) (without k xs)
  all_without P k [] all = tt
  all_without P k (x ∷ xs) all = elim (cases_eq x.slot k) [
    | inl same ↦ let e : without k (x ∷ xs) ≡ without k xs = grind (arith, nat_tests) in
        subst (AllByRecursion (λ (y : Item X). (y.slot ≢ k) × P y)) (sym e) (all_without P k xs all.1)
    | inr other ↦ let e : without k (x ∷ xs) ≡ x ∷ without k xs = grind (arith, nat_tests) in
        subst (AllByRecursion (λ (y : Item X). (y.slot ≢ k) × P y)) (sym e) ((other, all.0), all_without P k xs all.1)
  ]

slots_put : (x : Item Home) (ys : Items) → find x.slot ys ≡ None → HaveSlots ys → HaveSlots (put x ys)
slots_put x [] none slots = (none, tt)
slots_put x (y ∷ ys) none slots = elim (cases_eq y.slot x.slot) [
  | inl same ↦ let some : find x.slot (y ∷ ys) ≡ Some y = grind (arith, nat_tests) in absurd (cc)
  | inr other ↦
      let rest : find x.slot ys ≡ None = grind (arith, nat_tests) in
      elim (cases_lt x.due y.due) [
        | inl less ↦ let e : put x (y ∷ ys) ≡ x ∷ (y ∷ ys) = grind (arith, nat_tests) in subst HaveSlots (sym e) (none, slots)
        | inr more ↦ let e : put x (y ∷ ys) ≡ y ∷ put x ys = grind (arith, nat_tests) in
            subst HaveSlots (sym e) (find_put_other y.slot x ys (λ same. other (sym same)) ∙ slots.0, slots_put x ys rest slots.1)
      ]
]

slots_without : (k : ℕ) (xs : Items) → HaveSlots xs → HaveSlots (without k xs)
slots_without k [] slots = tt
slots_without k (x ∷ xs) slots = elim (cases_eq x.slot k) [
  | inl same ↦ let e : without k (x ∷ xs) ≡ without k xs = grind (arith, nat_tests) in subst HaveSlots (sym e) (slots_without k xs slots.1)
  | inr other ↦ let e : without k (x ∷ xs) ≡ x ∷ without k xs = grind (arith, nat_tests) in
      subst HaveSlots (sym e) (find_without_none x.slot k xs slots.0, slots_without k xs slots.1)
]

no_longer : (k : ℕ) (xs : Items) → length (without k xs) ≤ length xs
no_longer k [] = omega arith
no_longer k (x ∷ xs) = let more = no_longer k xs in grind (arith, nat_tests)

-- an item less
pub shorter : (k : ℕ) (xs : Items) → is_some (find k xs) ≡ true → length (without k xs) < length xs
shorter k [] some = absurd (false≢true some)
shorter k (x ∷ xs) some = elim (cases_eq x.slot k) [
  | inl same ↦ let e : without k (x ∷ xs) ≡ without k xs = grind (arith, nat_tests) in let less = no_longer k xs in let same = ap (λ (ys : Items). length ys) e in omega arith
  | inr other ↦
      let e : without k (x ∷ xs) ≡ x ∷ without k xs = grind (arith, nat_tests) in
      let rest : is_some (find k xs) ≡ true = grind (arith, nat_tests) in
      let less = shorter k xs rest in
      let same = ap (λ (ys : Items). length ys) e in
      omega arith
]

-- slots with one more, or another one at a place
has_set : (k : ℕ) (ss : List Slot) (at : ℕ) (n d : Slot) → (get_or ss at d).0 ≢ k → has_slot k ss ≡ true → has_slot k (set ss at n) ≡ true
has_set k [] at n d other has = has
has_set k (s ∷ ss) zero n d other has = grind (arith, nat_tests)
has_set k (s ∷ ss) (suc at) n d other has =
    let more : has_slot k ss ≡ true → has_slot k (set ss at n) ≡ true = has_set k ss at n d other in
    grind (arith, nat_tests, more)

has_set_same : (ss : List Slot) (at : ℕ) (n : Slot) → at < length ss → has_slot n.0 (set ss at n) ≡ true
has_set_same [] at n inside = absurd (omega arith)
has_set_same (s ∷ ss) zero n inside = grind (arith, nat_tests)
has_set_same (s ∷ ss) (suc at) n inside = let more = has_set_same ss at n (omega arith) in grind (arith, nat_tests, more)

has_insert : (k : ℕ) (ss : List Slot) (at : ℕ) (n : Slot) → at ≤ length ss → has_slot k ss ≡ true → has_slot k (insert ss at n) ≡ true
has_insert k ss zero n inside has = grind (arith, nat_tests)
has_insert k [] (suc at) n inside has = absurd (omega arith)
has_insert k (s ∷ ss) (suc at) n inside has =
    let more : has_slot k ss ≡ true → has_slot k (insert ss at n) ≡ true = has_insert k ss at n (omega arith) in
    grind (arith, nat_tests, more)

has_insert_same : (ss : List Slot) (at : ℕ) (n : Slot) → at ≤ length ss → has_slot n.0 (insert ss at n) ≡ true
has_insert_same ss zero n inside = grind (arith, nat_tests)
has_insert_same [] (suc at) n inside = absurd (omega arith)
has_insert_same (s ∷ ss) (suc at) n inside = let more = has_insert_same ss at n (omega arith) in grind (arith, nat_tests, more)

-- the items of all other slots stay, and this slot has the item
pub record IsFilledBy (old new : Items) (n : Slot) (x : Item Home) (IsOther : Slot → Type 0) : Type 0 where
  pub here : find n.0 new ≡ Some x
  pub stay : (s : Slot) → IsOther s → IsFilled old s → find s.0 new ≡ find s.0 old
  pub off : (s : Slot) → IsOther s → IsFilled old s → s.0 ≢ n.0

-- all slots but the one at a place are others
abbrev pub AreOthersBut : (Slot → Type 0) → List Slot → ℕ → Type 0
AreOthersBut IsOther [] at = Unit {0}
AreOthersBut IsOther (s ∷ ss) zero = AllByRecursion IsOther ss
AreOthersBut IsOther (s ∷ ss) (suc at) = IsOther s × AreOthersBut IsOther ss at

module _ (old new : Items) (n : Slot) (x : Item Home) (IsOther : Slot → Type 0) (by : IsFilledBy old new n x IsOther) where
  all_stay : (ss : List Slot) → AllByRecursion IsOther ss → AllByRecursion (IsFilled old) ss → AllByRecursion (λ s. find s.0 new ≡ find s.0 old) ss
  all_stay [] others filled = tt
  all_stay (s ∷ ss) others filled = (by.stay s others.0 filled.0, all_stay ss others.1 filled.1)

  all_filled : (ss : List Slot) → AllByRecursion IsOther ss → AllByRecursion (IsFilled old) ss → AllByRecursion (IsFilled new) ss
  all_filled [] others filled = tt
  all_filled (s ∷ ss) others filled = (ap is_some (by.stay s others.0 filled.0) ∙ filled.0, all_filled ss others.1 filled.1)

  all_off : (ss : List Slot) → AllByRecursion IsOther ss → AllByRecursion (IsFilled old) ss → AllByRecursion (λ s. s.0 ≢ n.0) ss
  all_off [] others filled = tt
  all_off (s ∷ ss) others filled = (by.off s others.0 filled.0, all_off ss others.1 filled.1)

  here_filled : IsFilled new n
  here_filled = ap is_some by.here

  rows_insert : (ss : List Slot) (at : ℕ) → at ≤ length ss → AllByRecursion IsOther ss → AllByRecursion (IsFilled old) ss → homes_of new (insert ss at n) ≡ insert (homes_of old ss) at x.value
  rows_insert ss zero inside others filled =
      ap (λ (o : Option (Item Home)). add_home o (homes_of new ss)) by.here ∙ ap (λ (rs : List Home). x.value ∷ rs) (rows_agree old new ss (all_stay ss others filled))
  rows_insert [] (suc at) inside others filled = absurd (omega arith)
  rows_insert (s ∷ ss) (suc at) inside others filled =
      ap (λ (o : Option (Item Home)). add_home o (homes_of new (insert ss at n))) (by.stay s others.0 filled.0)
      ∙ ap (add_home (find s.0 old)) (rows_insert ss at (omega arith) others.1 filled.1)
      ∙ behind (find s.0 old) (homes_of old ss) filled.0
    where
      behind : (o : Option (Item Home)) (rs : List Home) → is_some o ≡ true → add_home o (insert rs at x.value) ≡ insert (add_home o rs) (suc at) x.value
      behind None rs some = absurd (false≢true some)
      behind (Some y) rs some = refl

  filled_insert : (ss : List Slot) (at : ℕ) → at ≤ length ss → AllByRecursion IsOther ss → AllByRecursion (IsFilled old) ss → AllByRecursion (IsFilled new) (insert ss at n)
  filled_insert ss at inside others filled = all_insert (IsFilled new) ss at n here_filled (all_filled ss others filled) inside

  apart_insert : (ss : List Slot) (at : ℕ) → at ≤ length ss → AllByRecursion IsOther ss → AllByRecursion (IsFilled old) ss → AreApart ss → AreApart (insert ss at n)
  apart_insert ss zero inside others filled apart = (all_off ss others filled, apart)
  apart_insert [] (suc at) inside others filled apart = absurd (omega arith)
  apart_insert (s ∷ ss) (suc at) inside others filled apart =
      (all_insert (λ t. t.0 ≢ s.0) ss at n (λ same. by.off s others.0 filled.0 (sym same)) apart.0 (omega arith), apart_insert ss at (omega arith) others.1 filled.1 apart.1)

  rows_set : (ss : List Slot) (at : ℕ) → at < length ss → AreOthersBut IsOther ss at → AllByRecursion (IsFilled old) ss → homes_of new (set ss at n) ≡ set (homes_of old ss) at x.value
  rows_set [] at inside others filled = absurd (omega arith)
  rows_set (s ∷ ss) zero inside others filled =
      ap (λ (o : Option (Item Home)). add_home o (homes_of new ss)) by.here
      ∙ ap (λ (rs : List Home). x.value ∷ rs) (rows_agree old new ss (all_stay ss others filled.1))
      ∙ first (find s.0 old) (homes_of old ss) filled.0
    where
      first : (o : Option (Item Home)) (rs : List Home) → is_some o ≡ true → x.value ∷ rs ≡ set (add_home o rs) zero x.value
      first None rs some = absurd (false≢true some)
      first (Some y) rs some = refl
  rows_set (s ∷ ss) (suc at) inside others filled =
      ap (λ (o : Option (Item Home)). add_home o (homes_of new (set ss at n))) (by.stay s others.0 filled.0)
      ∙ ap (add_home (find s.0 old)) (rows_set ss at (omega arith) others.1 filled.1)
      ∙ behind (find s.0 old) (homes_of old ss) filled.0
    where
      behind : (o : Option (Item Home)) (rs : List Home) → is_some o ≡ true → add_home o (set rs at x.value) ≡ set (add_home o rs) (suc at) x.value
      behind None rs some = absurd (false≢true some)
      behind (Some y) rs some = refl

  filled_set : (ss : List Slot) (at : ℕ) → at < length ss → AreOthersBut IsOther ss at → AllByRecursion (IsFilled old) ss → AllByRecursion (IsFilled new) (set ss at n)
  filled_set [] at inside others filled = absurd (omega arith)
  filled_set (s ∷ ss) zero inside others filled = (here_filled, all_filled ss others filled.1)
  filled_set (s ∷ ss) (suc at) inside others filled =
      (ap is_some (by.stay s others.0 filled.0) ∙ filled.0, filled_set ss at (omega arith) others.1 filled.1)

  apart_set : (ss : List Slot) (at : ℕ) → at < length ss → AreOthersBut IsOther ss at → AllByRecursion (IsFilled old) ss → AreApart ss → AreApart (set ss at n)
  apart_set [] at inside others filled apart = absurd (omega arith)
  apart_set (s ∷ ss) zero inside others filled apart = (all_off ss others filled.1, apart.1)
  apart_set (s ∷ ss) (suc at) inside others filled apart =
      (all_set (λ t. t.0 ≢ s.0) ss at n (λ same. by.off s others.0 filled.0 (sym same)) apart.0, apart_set ss at (omega arith) others.1 filled.1 apart.1)

others_but : (ss : List Slot) (at : ℕ) (d : Slot) → AreApart ss → at < length ss → AreOthersBut (λ s. s.0 ≢ (get_or ss at d).0) ss at
others_but [] at d apart inside = tt
others_but (s ∷ ss) zero d apart inside = apart.0
others_but (s ∷ ss) (suc at) d apart inside =
    (λ same. all_at (λ (t : Slot). t.0 ≢ s.0) ss at d apart.0 (omega arith) (sym same), others_but ss at d apart.1 (omega arith))

any_other : (ss : List Slot) → AllByRecursion (λ (s : Slot). Unit {0}) ss
any_other [] = tt
any_other (s ∷ ss) = (tt, any_other ss)

-- a slot that has an item is none that has none
filled_off : (items : Items) (k : ℕ) (s : Slot) → find k items ≡ None → IsFilled items s → s.0 ≢ k
filled_off items k s none filled same = false≢true (sym (ap is_some (subst (λ (j : ℕ). find j items ≡ None) (sym same) none)) ∙ filled)

pub length_filled : (items : Items) (ss : List Slot) → AllByRecursion (IsFilled items) ss → length (homes_of items ss) ≡ length ss
length_filled items [] filled = refl
length_filled items (s ∷ ss) filled = by (find s.0 items) filled.0 (length_filled items ss filled.1)
  where
    by : (o : Option (Item Home)) → is_some o ≡ true → length (homes_of items ss) ≡ length ss → length (add_home o (homes_of items ss)) ≡ length (s ∷ ss)
    by None some more = absurd (false≢true some)
    by (Some x) some more = omega arith

pub has_place : (rows : List Home) (at : ℕ) → at < length rows → is_some (slice_get rows at) ≡ true
has_place [] at inside = absurd (omega arith)
has_place (r ∷ rs) zero inside = refl
has_place (r ∷ rs) (suc at) inside = has_place rs at (omega arith)

-- and so are homes in order with one for which there is room
sound_put : (limit : ℕ) (h : Home) (hs : List Home) → IsSound limit hs → no_room key_of limit (key_of h) hs ≡ false → IsSound limit (put_by key_of h hs)
sound_put limit h hs sound room = record {
  rises = rises-put key_of h hs sound.rises;
  room = by (is_some (find_by key_of (key_of h) hs)) room (length-put key_of h hs sound.rises);
}
  where
    by : (some : Bool) → (not some && (length hs == limit)) ≡ false → length (put_by key_of h hs) ≡ (if some then length hs else length hs + 1) → length (put_by key_of h hs) ≤ limit
    by true room e = let fits = sound.room in omega arith
    by false room e = let fits = sound.room in grind (arith, nat_tests)

length_set : {X : Type 0} (xs : List X) (at : ℕ) (x : X) → length (set xs at x) ≡ length xs
length_set [] at x = refl
length_set (y ∷ ys) zero x = omega arith
length_set (y ∷ ys) (suc at) x = let more = length_set ys at x in omega arith

length_insert : {X : Type 0} (xs : List X) (at : ℕ) (x : X) → at ≤ length xs → length (insert xs at x) ≡ length xs + 1
length_insert xs zero x inside = omega arith
length_insert [] (suc at) x inside = absurd (omega arith)
length_insert (y ∷ ys) (suc at) x inside = let more = length_insert ys at x (omega arith) in omega arith

-- a table with another chain, other slots and other spare memory
abbrev pub changed : TableSeen → Items → List Slot → ℕ → List (Vec Row) → ℕ → TableSeen
changed t items homes capacity spare shelf = record {
  room = t.room;
  numbers = t.numbers;
  chain = record { room = t.chain.room; items = items };
  homes = homes;
  capacity = capacity;
  spare = spare;
  shelf = shelf;
}

pub record IsPut (row : Home) (old new : TableSeen) : Type 0 where
  pub table : IsTable new
  pub rows : homes_in new ≡ put_by key_of row (homes_in old)

module _ (t : TableSeen) (table : IsTable t) (row : Home) (well : IsHome t.numbers row) (at : ℕ) (n : Slot) (capacity : ℕ) (more : t.capacity ≤ capacity) where
  fits : t.room ≤ capacity
  fits = let less = table.capacity in omega arith

  -- a slot was filled
  pub added : (spare : List (Vec Row)) (shelf : ℕ) → AllByRecursion (IsSpare t.numbers) spare → length spare + 1 ≡ length t.spare → t.shelf ≤ shelf
      → find n.0 t.chain.items ≡ None → IsGap (homes_in t) (key_of row) at → no_room key_of t.room (key_of row) (homes_in t) ≡ false → IsPut row t (changed t (put (item_for n.0 row) t.chain.items) (insert t.homes at n) capacity spare shelf)
  added spare shelf spares one shelved none gap free =
      let x = item_for n.0 row in
      let old = t.chain.items in
      let IsAny : Slot → Type 0 = λ s. Unit {0} in
      let any = any_other t.homes in
      let same = length_filled old t.homes table.filled in
      let within = gap.inside in
      let inside : at ≤ length t.homes = omega arith in
      let by : IsFilledBy old (put x old) n x IsAny = record {
        here = find_put_same x old none;
        stay = λ s other filled. find_put_other s.0 x old (λ is. filled_off old n.0 s none filled (sym is));
        off = λ s other filled. filled_off old n.0 s none filled;
      } in
      let rows : homes_of (put x old) (insert t.homes at n) ≡ put_by key_of row (homes_in t) =
      rows_insert old (put x old) n x IsAny by t.homes at inside any table.filled ∙ gap.added row refl in
      let loose : IsLoose (put x old) (insert t.homes at n) = record {
        apart = apart_insert old (put x old) n x IsAny by t.homes at inside any table.filled table.loose.apart;
        slots = slots_put x old none table.loose.slots;
        inside =
            all_put (λ (y : Item Home). has_slot y.slot (insert t.homes at n) ≡ true) x old (has_insert_same t.homes at n inside)
            (all_map (λ (y : Item Home). has_slot y.slot t.homes ≡ true) (λ (y : Item Home). has_slot y.slot (insert t.homes at n) ≡ true) old (λ y has. has_insert y.slot t.homes at n inside has) table.loose.inside);
        due = all_put (λ (y : Item Home). y.due ≡ due_of y.value) x old refl table.loose.due;
        order = put_order x old table.loose.order;
      } in
      let counted = length_rows (put x old) (insert t.homes at n) loose in
      let longer = length_insert t.homes at n inside in
      let in_slots = length_filled (put x old) (insert t.homes at n) (filled_insert old (put x old) n x IsAny by t.homes at inside any table.filled) in
      let before = length_rows old t.homes table.loose in
      let all = table.stock.all in
      let shelves = table.stock.shelves in
      record {
        table = record {
          loose = loose;
          stock = record {
            each = all_put (λ (y : Item Home). IsHome t.numbers y.value) x old well table.stock.each;
            spares = spares;
            all = omega arith;
            shelves = omega arith;
            few = table.stock.few;
            fits = table.stock.fits;
          };
          some = table.some;
          filled = filled_insert old (put x old) n x IsAny by t.homes at inside any table.filled;
          sound = subst (IsSound t.room) (sym rows) (sound_put t.room row (homes_in t) table.sound free);
          room = table.room;
          capacity = fits;
        };
        rows = rows;
      }

  -- the slot at a place was emptied, and one was filled in its stead
  pub replaced : (d : Slot) → find n.0 (without (get_or t.homes at d).0 t.chain.items) ≡ None → IsPlace (homes_in t) (key_of row) at
      → IsPut row t (changed t (put (item_for n.0 row) (without (get_or t.homes at d).0 t.chain.items)) (set t.homes at n) capacity t.spare t.shelf)
  replaced d none place =
      let x = item_for n.0 row in
      let old = t.chain.items in
      let k : ℕ = (get_or t.homes at d).0 in
      let left = without k old in
      let IsOther : Slot → Type 0 = λ s. s.0 ≢ k in
      let same = length_filled old t.homes table.filled in
      let within = place.inside in
      let inside : at < length t.homes = omega arith in
      let others = others_but t.homes at d table.loose.apart inside in
      let stays : (s : Slot) → IsOther s → IsFilled old s → IsFilled left s =
      λ s other filled. ap is_some (find_without_other s.0 k old (λ is. other (sym is))) ∙ filled in
      let by : IsFilledBy old (put x left) n x IsOther = record {
        here = find_put_same x left none;
        stay = λ s other filled. find_put_other s.0 x left (λ is. filled_off left n.0 s none (stays s other filled) (sym is)) ∙ find_without_other s.0 k old (λ is. other (sym is));
        off = λ s other filled. filled_off left n.0 s none (stays s other filled);
      } in
      let free : no_room key_of t.room (key_of row) (homes_in t) ≡ false =
      ap (λ (b : Bool). not b && (length (homes_in t) == t.room)) (ap is_some place.found ∙ has_place (homes_in t) at within) in
      let rows : homes_of (put x left) (set t.homes at n) ≡ put_by key_of row (homes_in t) =
      rows_set old (put x left) n x IsOther by t.homes at inside others table.filled ∙ place.replaced row refl in
      let loose : IsLoose (put x left) (set t.homes at n) = record {
        apart = apart_set old (put x left) n x IsOther by t.homes at inside others table.filled table.loose.apart;
        slots = slots_put x left none (slots_without k old table.loose.slots);
        inside =
            all_put (λ (y : Item Home). has_slot y.slot (set t.homes at n) ≡ true) x left (has_set_same t.homes at n inside)
            (all_map (λ (y : Item Home). (y.slot ≢ k) × (has_slot y.slot t.homes ≡ true)) (λ (y : Item Home). has_slot y.slot (set t.homes at n) ≡ true) left
            (λ y both. has_set y.slot t.homes at n d (λ is. both.0 (sym is)) both.1)
            (all_without (λ (y : Item Home). has_slot y.slot t.homes ≡ true) k old table.loose.inside));
        due =
            all_put (λ (y : Item Home). y.due ≡ due_of y.value) x left refl
            (all_map (λ (y : Item Home). (y.slot ≢ k) × (y.due ≡ due_of y.value)) (λ (y : Item Home). y.due ≡ due_of y.value) left (λ y both. both.1)
            (all_without (λ (y : Item Home). y.due ≡ due_of y.value) k old table.loose.due));
        order = put_order x left (without_order k old table.loose.order);
      } in
      let counted = length_rows (put x left) (set t.homes at n) loose in
      let longer = length_set t.homes at n in
      let in_slots = length_filled (put x left) (set t.homes at n) (filled_set old (put x left) n x IsOther by t.homes at inside others table.filled) in
      let before = length_rows old t.homes table.loose in
      let all = table.stock.all in
      record {
        table = record {
          loose = loose;
          stock = record {
            each =
                all_put (λ (y : Item Home). IsHome t.numbers y.value) x left well
                (all_map (λ (y : Item Home). (y.slot ≢ k) × IsHome t.numbers y.value) (λ (y : Item Home). IsHome t.numbers y.value) left (λ y both. both.1)
                (all_without (λ (y : Item Home). IsHome t.numbers y.value) k old table.stock.each));
            spares = table.stock.spares;
            all = omega arith;
            shelves = table.stock.shelves;
            few = table.stock.few;
            fits = table.stock.fits;
          };
          some = table.some;
          filled = filled_set old (put x left) n x IsOther by t.homes at inside others table.filled;
          sound = subst (IsSound t.room) (sym rows) (sound_put t.room row (homes_in t) table.sound free);
          room = table.room;
          capacity = fits;
        };
        rows = rows;
      }

module _ (t : TableSeen) (table : IsTable t) where
  -- each slot of the table has a row
  pub as_many : length t.homes ≡ length (homes_in t)
  as_many = sym (length_filled t.chain.items t.homes table.filled)

  -- with room for a row there is an empty slot
  pub slot_free : (home : ℕ) → find_by key_of home (homes_in t) ≡ None → no_room key_of t.room home (homes_in t) ≡ false → length t.chain.items < t.chain.room
  slot_free home none free =
      let few = table.sound.room in
      let same = length_rows t.chain.items t.homes table.loose in
      let room = table.room in
      let other : (length (homes_in t) == t.room) ≡ false = ap (λ (b : Bool). not b && (length (homes_in t) == t.room)) (sym (ap is_some none)) ∙ free in
      grind (arith, nat_tests)

  -- an emptied slot is one
  pub slot_left : (at : ℕ) (d : Slot) → at < length (homes_in t) → length (without (get_or t.homes at d).0 t.chain.items) < t.chain.room
  slot_left at d within =
      let few = table.sound.room in
      let same = length_rows t.chain.items t.homes table.loose in
      let many = as_many in
      let room = table.room in
      let less = shorter (get_or t.homes at d).0 t.chain.items (all_at (IsFilled t.chain.items) t.homes at d table.filled (omega arith)) in
      omega arith
