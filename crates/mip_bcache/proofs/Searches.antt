-- What is found of a home among slots in order of home.
use Rattle.std.proofs.Common.{◌≡◌, ℕ, zero, suc, ◌<◌, List, [], ◌∷◌, true, length, get_or, refl, sym, ap, subst, arith}
use Rattle.std.specs.Prelude.{Option, Some, None, is_some, option_map, slice_get, Result, Ok, Err, IfOk, IfErr}
use Rattle.std.specs.List.{AllByRecursion}
use Rattle.std.specs.List.Sorted.{IsSearchInRange, IsBinarySearchResult}
use Rattle.std.specs.Ordering.{nat_cmp}
use Rattle.std.proofs.lemmas.Bool.{false≢true}
use Rattle.mip_chain.specs.Chain.{Item, find}
use Rattle.mip_chain.specs.declared.slot.Slot.{Slot}
use Rattle.mip_bcache.specs.declared.home.Home.{Home}
use Rattle.mip_bcache.specs.Table.{key_of, IsPlace, IsGap, TableSeen, add_home, homes_of, homes_in, key_found, key_at, IsFilled, IsTable}
use Rattle.mip_bcache.proofs.Places.{searched, gap_first}
use Rattle.mip_bcache.proofs.Slots.{Items}
use Rattle.mip_bcache.proofs.Puts.{as_many}

-- a slot's key is the home of its row
keyed : (items : Items) (ss : List Slot) (d : Slot) (e : Home) → AllByRecursion (IsFilled items) ss → (i : ℕ) → i < length (homes_of items ss) → key_at (get_or ss i d).0 items ≡ key_of (get_or (homes_of items ss) i e)
keyed items [] d e filled i inside = absurd (omega arith)
keyed items (s ∷ ss) d e filled zero inside = by (find s.0 items) filled.0
  where
    by : (o : Option (Item Home)) → is_some o ≡ true → key_found o ≡ key_of (get_or (add_home o (homes_of items ss)) zero e)
    by None some = absurd (false≢true some)
    by (Some x) some = refl
keyed items (s ∷ ss) d e filled (suc i) inside = by (find s.0 items) filled.0 inside (keyed items ss d e filled.1 i)
  where
    by : (o : Option (Item Home)) → is_some o ≡ true → suc i < length (add_home o (homes_of items ss)) → (i < length (homes_of items ss) → key_at (get_or ss i d).0 items ≡ key_of (get_or (homes_of items ss) i e)) → key_at (get_or ss i d).0 items ≡ key_of (get_or (add_home o (homes_of items ss)) (suc i) e)
    by None some less more = absurd (false≢true some)
    by (Some x) some less more = more (omega arith)

-- the row at a place is that of the slot there
pub row_at_place : (items : Items) (ss : List Slot) (d : Slot) → AllByRecursion (IsFilled items) ss → (i : ℕ) → i < length (homes_of items ss) → option_map (λ x. x.value) (find (get_or ss i d).0 items) ≡ slice_get (homes_of items ss) i
row_at_place items [] d filled i inside = absurd (omega arith)
row_at_place items (s ∷ ss) d filled zero inside = by (find s.0 items) filled.0
  where
    by : (o : Option (Item Home)) → is_some o ≡ true → option_map (λ x. x.value) o ≡ slice_get (add_home o (homes_of items ss)) zero
    by None some = absurd (false≢true some)
    by (Some x) some = refl
row_at_place items (s ∷ ss) d filled (suc i) inside = by (find s.0 items) filled.0 inside (row_at_place items ss d filled.1 i)
  where
    by : (o : Option (Item Home)) → is_some o ≡ true → suc i < length (add_home o (homes_of items ss)) → (i < length (homes_of items ss) → option_map (λ x. x.value) (find (get_or ss i d).0 items) ≡ slice_get (homes_of items ss) i) → option_map (λ x. x.value) (find (get_or ss i d).0 items) ≡ slice_get (add_home o (homes_of items ss)) (suc i)
    by None some less more = absurd (false≢true some)
    by (Some x) some less more = more (omega arith)

-- some slot, for places past the end
no_slot : Slot
no_slot = record { 0 = 0 }

pub searched_table : (t : TableSeen) → IsTable t → (home : ℕ) (r : Result ℕ ℕ) → IsSearchInRange r (length t.homes) → IsBinarySearchResult (λ (s : Slot). nat_cmp (key_at s.0 t.chain.items) home) t.homes r → record { found : IfOk r (IsPlace (homes_in t) home); absent : IfErr r (IsGap (homes_in t) home) }
searched_table t table home r in_range is = by (homes_in t) refl
  where
    none : (hs : List Home) → homes_in t ≡ hs → length hs ≡ 0 → (q : Result ℕ ℕ) → IsSearchInRange q (length t.homes) → hs ≡ [] → record { found : IfOk q (IsPlace hs home); absent : IfErr q (IsGap hs home) }
    none hs e long (Ok at) range empty = let many = as_many t table in let same = ap (λ (gs : List Home). length gs) e in absurd (omega arith)
    none hs e long (Err at) range empty =
        let many = as_many t table in
        let same = ap (λ (gs : List Home). length gs) e in
        record { found = tt; absent = subst (λ (gs : List Home). IsGap gs home at) (sym empty) (gap_first home at (omega arith)) }

    by : (hs : List Home) → homes_in t ≡ hs → record { found : IfOk r (IsPlace (homes_in t) home); absent : IfErr r (IsGap (homes_in t) home) }
    by [] e = subst (λ (hs : List Home). record { found : IfOk r (IsPlace hs home); absent : IfErr r (IsGap hs home) }) (sym e) (none [] e refl r in_range refl)
    by (h ∷ hs) e =
        searched (λ (s : Slot). key_at s.0 t.chain.items) t.homes no_slot (homes_in t) table.sound.rises home h (as_many t table) (keyed t.chain.items t.homes no_slot h table.filled) r in_range is
