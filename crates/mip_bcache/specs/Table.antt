-- How a cache lies in memory: homes in the slots of a chain, and these slots in order of home.
use Rattle.std.specs.Prelude.{◌≡◌, ◌≢◌, ℕ, ◌+◌, ◌*◌, ◌^◌, ◌≤◌, ◌<◌, List, [], ◌∷◌, ◌++◌, Option, Some, None, Bool, true, is_some, map, nat_lt, length, ◌==◌, if◌then◌else◌, vec_capacity, slice_get, slice_set}
use Rattle.std.specs.List.{AllByRecursion, list_any, insert}
use Rattle.std.specs.Global.{Vec}
use Rattle.mip_binding.specs.Rows.{RisesBy, ApartBy, find_by, put_by, kept_by}
use Rattle.mip_chain.specs.Chain.{Item, ChainSeen, AreInOrder, find}
use Rattle.mip_chain.specs.declared.slot.Slot.{Slot}
use Rattle.mip_bcache.specs.declared.row.Row.{Row}
use Rattle.mip_bcache.specs.declared.home.Home.{Home}
use Rattle.mip_bcache.specs.declared.table.Table.{Table}
use Rattle.mip_bcache.specs.Seen.{HomeRows, number_of}

-- the rows of a home, oldest first
abbrev pub live_in : Home → List Row
live_in h = h.others.items ++ h.last ∷ []

abbrev pub key_of : Home → ℕ
key_of h = h.last.home.0

abbrev pub due_of : Home → ℕ
due_of h = h.last.kept_until.0

abbrev pub rows_seen : Home → HomeRows
rows_seen h = record { home = key_of h; sequence = h.last.sequence; until = due_of h; live = live_in h }

-- no number of a home comes twice, none is beyond those that there are, each row is kept as long as the
-- home's sequence, and there is memory for a row under each number
pub record IsHome (numbers : ℕ) (h : Home) : Type 0 where
  pub apart : ApartBy number_of (live_in h)
  pub below : AllByRecursion (λ r. r.number < numbers) (live_in h)
  pub untils : AllByRecursion (λ r. r.kept_until.0 ≡ due_of h) (live_in h)
  pub room : numbers ≤ vec_capacity h.others + 1

-- memory for the rows of one home, beside the one that came last
pub record IsSpare (numbers : ℕ) (rows : Vec Row) : Type 0 where
  pub empty : rows.items ≡ []
  pub room : numbers ≤ vec_capacity rows + 1

-- the memory of a home is put behind the others
pub record IsShelved (h : Home) (old new : List (Vec Row)) : Type 0 where
  pub rows : Vec Row
  pub whole : new ≡ old ++ rows ∷ []
  pub empty : rows.items ≡ []
  pub room : vec_capacity h.others ≤ vec_capacity rows

pub record TableSeen : Type 0 where
  pub room : ℕ
  pub numbers : ℕ
  pub chain : ChainSeen Home
  pub homes : List Slot
  pub capacity : ℕ
  pub spare : List (Vec Row)
  pub shelf : ℕ

abbrev pub seen : Table → TableSeen
seen t = record {
  room = t.room;
  numbers = t.numbers;
  chain = t.chain;
  homes = t.homes.items;
  capacity = vec_capacity t.homes;
  spare = t.spare.items;
  shelf = vec_capacity t.spare;
}

-- how many rows these homes have
abbrev pub count_of : List Home → ℕ
count_of [] = 0
count_of (h ∷ hs) = length (live_in h) + count_of hs

abbrev pub count_in : List (Item Home) → ℕ
count_in [] = 0
count_in (x ∷ xs) = length (live_in x.value) + count_in xs

-- the home of a slot that was looked up, and these
abbrev pub add_home : Option (Item Home) → List Home → List Home
add_home None hs = hs
add_home (Some x) hs = x.value ∷ hs

-- the homes of these slots; an empty slot has none
abbrev pub homes_of : List (Item Home) → List Slot → List Home
homes_of items [] = []
homes_of items (s ∷ ss) = add_home (find s.0 items) (homes_of items ss)

abbrev pub homes_in : TableSeen → List Home
homes_in t = homes_of t.chain.items t.homes

-- what a contract of the cache sees of them
abbrev pub homes_seen : TableSeen → List HomeRows
homes_seen t = map rows_seen (homes_in t)

-- a home whose sequence is kept at a moment
abbrev pub kept_home : TableSeen → ℕ → ℕ → Option Home
kept_home t home now = find_by key_of home (kept_by due_of now (homes_in t))

-- the address of the home that was looked up, 0 where there is none
abbrev pub key_found : Option (Item Home) → ℕ
key_found None = 0
key_found (Some x) = key_of x.value

abbrev pub key_at : ℕ → List (Item Home) → ℕ
key_at slot items = key_found (find slot items)

-- the home that was looked up, where its sequence is kept
abbrev pub kept_in : ℕ → Option (Item Home) → Option Home
kept_in now None = None
kept_in now (Some x) = if nat_lt now (due_of x.value) then Some x.value else None

-- a home is due when its sequence is no longer kept
abbrev pub item_for : ℕ → Home → Item Home
item_for slot h = record { slot = slot; due = due_of h; value = h }

-- the items from the first one on that is not due
abbrev pub later : ℕ → List (Item Home) → List (Item Home)
later now [] = []
later now (x ∷ xs) = if nat_lt now x.due then x ∷ xs else later now xs

-- no slot comes twice
abbrev pub AreApart : List Slot → Type 0
AreApart [] = Unit {0}
AreApart (s ∷ ss) = AllByRecursion (λ t. t.0 ≢ s.0) ss × AreApart ss

-- no two items have one slot
abbrev pub HaveSlots : List (Item Home) → Type 0
HaveSlots [] = Unit {0}
HaveSlots (x ∷ xs) = (find x.slot xs ≡ None) × HaveSlots xs

abbrev pub has_slot : ℕ → List Slot → Bool
has_slot k ss = list_any (λ s. s.0 == k) ss

abbrev pub IsFilled : List (Item Home) → Slot → Type 0
IsFilled items s = is_some (find s.0 items) ≡ true

-- each item's slot is among these, but not each of these has an item
pub record IsLoose (items : List (Item Home)) (homes : List Slot) : Type 0 where
  pub apart : AreApart homes
  pub slots : HaveSlots items
  pub inside : AllByRecursion (λ x. has_slot x.slot homes ≡ true) items
  pub due : AllByRecursion (λ x. x.due ≡ due_of x.value) items
  pub order : AreInOrder items

-- homes in order, no more than there is room for
pub record IsSound (limit : ℕ) (hs : List Home) : Type 0 where
  pub rises : RisesBy key_of hs
  pub room : length hs ≤ limit

-- the memory of each home is in use or spare
pub record IsStocked (numbers room : ℕ) (items : List (Item Home)) (spare : List (Vec Row)) (shelf : ℕ) : Type 0 where
  pub each : AllByRecursion (λ x. IsHome numbers x.value) items
  pub spares : AllByRecursion (IsSpare numbers) spare
  pub all : length spare + length items ≡ room
  pub shelves : room ≤ shelf
  pub few : numbers ≤ 8
  pub fits : room * numbers < 2 ^ 32

-- each slot of the table has a home, and there is no other home
pub record IsTable (t : TableSeen) : Type 0 where
  pub loose : IsLoose t.chain.items t.homes
  pub stock : IsStocked t.numbers t.room t.chain.items t.spare t.shelf
  pub filled : AllByRecursion (IsFilled t.chain.items) t.homes
  pub sound : IsSound t.room (homes_in t)
  pub room : t.chain.room ≡ t.room
  pub capacity : t.room ≤ t.capacity
  pub some : 1 ≤ t.numbers

-- the place of a home, and the place where one would go
pub record IsPlace (hs : List Home) (home at : ℕ) : Type 0 where
  pub inside : at < length hs
  pub found : find_by key_of home hs ≡ slice_get hs at
  pub replaced : (h : Home) → key_of h ≡ home → slice_set hs at h ≡ put_by key_of h hs

pub record IsGap (hs : List Home) (home at : ℕ) : Type 0 where
  pub inside : at ≤ length hs
  pub none : find_by key_of home hs ≡ None
  pub added : (h : Home) → key_of h ≡ home → insert hs at h ≡ put_by key_of h hs
