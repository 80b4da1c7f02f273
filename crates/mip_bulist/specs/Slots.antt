-- The timers of a mobile in the slots of a chain, and the table that says in which slot the timer of a work stands.
use Rattle.std.specs.Prelude.{◌≡◌, ◌≢◌, ℕ, ◌==◌, if◌then◌else◌, Option, Some, None, List, [], ◌∷◌, map, slice_get}
use Rattle.std.specs.List.{AllByRecursion}
use Rattle.mip_chain.specs.declared.slot.Slot.{Slot}
use Rattle.mip_chain.specs.Chain.{Item, ChainSeen}
use Rattle.mip_bulist.specs.declared.work.Work.{Work}
use Rattle.mip_bulist.specs.declared.timer.Timer.{Timer}
use Rattle.mip_bulist.specs.Timers.{number_of, IsSound}

-- what a filled slot is the timer of
abbrev pub timer_of : Item Work → Timer
timer_of x = record { due = record { 0 = x.due }; work = x.value }

abbrev pub timers_of : List (Item Work) → List Timer
timers_of xs = map timer_of xs

-- the slot of this work's timer, where it is set
abbrev pub slot_of : Work → List (Item Work) → Option ℕ
slot_of work [] = None
slot_of work (x ∷ xs) = if number_of x.value == number_of work then Some x.slot else slot_of work xs

-- the table has the slot of each timer, under the number of its work
abbrev pub AreListed : List Slot → List (Item Work) → Type 0
AreListed table xs = AllByRecursion (λ x. slice_get table (number_of x.value) ≡ Some (record { 0 = x.slot })) xs

-- no two timers stand in one slot
abbrev pub AreOfDifferentSlots : List (Item Work) → Type 0
AreOfDifferentSlots [] = Unit {0}
AreOfDifferentSlots (x ∷ xs) = AllByRecursion (λ y. y.slot ≢ x.slot) xs × AreOfDifferentSlots xs

-- timers of different works in slots of their own, each where the table says, in a chain with room for every work
pub record IsKept (chain : ChainSeen Work) (table : List Slot) : Type 0 where
  pub room : chain.room ≡ 64
  pub sound : IsSound (timers_of chain.items)
  pub listed : AreListed table chain.items
  pub different : AreOfDifferentSlots chain.items
