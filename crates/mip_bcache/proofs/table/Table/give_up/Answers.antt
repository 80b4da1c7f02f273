use Rattle.std.proofs.Common.{arith, ◌≡◌, ◌+◌, ℕ, List, sym, ap, subst, ◌∙◌, rules, vec_capacity}
use Rattle.std.proofs.lemmas.Fn.{filter_same}
use Rattle.std.specs.Global.{Vec}
use Rattle.mip_chain.specs.Chain.{ChainSeen}
use Rattle.mip_chain.specs.declared.slot.Slot.{Slot}
use Rattle.mip_bcache.specs.declared.home.Home.{Home}
use Rattle.mip_bcache.specs.declared.table.Table.{Table}
use Rattle.mip_bcache.specs.Table.{TableSeen, seen, homes_in, count_of, count_in, later, IsTable, IsStocked}
use Rattle.mip_bcache.proofs.Closing.{closed_same, closed, is_filled, given_up, homes_left, table_left, count_left}
use Rattle.mip_bcache.proofs.table.Table.give_up.Given.{Over}
use Rattle.mip_bcache.proofs.table.Table.give_up.Goals.{After-retain, Then-given_up-eq0}
use Rattle.mip_bcache.proofs.table.Table.give_up.Goals as goal

-- a table whose slots that were due are empty, once these slots are closed
record IsGivenUp (now : ℕ) (old new : Table) (slots : List Slot) (capacity : ℕ) : Type 0 where
  whole : record { room = new.room; numbers = new.numbers; chain = new.chain; homes = slots; capacity = capacity; spare = new.spare.items; shelf = vec_capacity new.spare } ≡ given_up now (seen old) new.spare.items (vec_capacity new.spare)
  stock : IsStocked old.numbers old.room (later now old.chain.items) new.spare.items (vec_capacity new.spare)

is_given_up : (now : ℕ) (old new : Table) (slots : List Slot) (capacity : ℕ) → new.chain ≡ record { room = old.chain.room; items = later now old.chain.items } → (new.room ≡ old.room) × (new.numbers ≡ old.numbers)
    → IsStocked new.numbers new.room new.chain.items new.spare.items (vec_capacity new.spare) → slots ≡ closed (later now old.chain.items) old.homes.items → capacity ≡ vec_capacity old.homes
    → IsGivenUp now old new slots capacity
is_given_up now old new slots capacity chain room stock closes same = record {
  whole =
      ap (λ (v : ChainSeen Home). record { room = new.room; numbers = new.numbers; chain = v; homes = slots; capacity = capacity; spare = new.spare.items; shelf = vec_capacity new.spare }) chain
      ∙ ap (λ (n : ℕ). record { room = n; numbers = new.numbers; chain = record { room = old.chain.room; items = later now old.chain.items }; homes = slots; capacity = capacity; spare = new.spare.items; shelf = vec_capacity new.spare }) room.0
      ∙ ap (λ (n : ℕ). record { room = old.room; numbers = n; chain = record { room = old.chain.room; items = later now old.chain.items }; homes = slots; capacity = capacity; spare = new.spare.items; shelf = vec_capacity new.spare }) room.1
      ∙ ap (λ (ss : List Slot). record { room = old.room; numbers = old.numbers; chain = record { room = old.chain.room; items = later now old.chain.items }; homes = ss; capacity = capacity; spare = new.spare.items; shelf = vec_capacity new.spare }) closes
      ∙ ap (λ (n : ℕ). record { room = old.room; numbers = old.numbers; chain = record { room = old.chain.room; items = later now old.chain.items }; homes = closed (later now old.chain.items) old.homes.items; capacity = n; spare = new.spare.items; shelf = vec_capacity new.spare }) same;
  stock =
      subst (λ (v : ChainSeen Home). IsStocked old.numbers old.room v.items new.spare.items (vec_capacity new.spare)) chain
      (subst (λ (n : ℕ). IsStocked n old.room new.chain.items new.spare.items (vec_capacity new.spare)) room.1
      (subst (λ (n : ℕ). IsStocked new.numbers n new.chain.items new.spare.items (vec_capacity new.spare)) room.0 stock));
}

-- where homes were given up
new_is : (g : Over) (c : After-retain g) → IsGivenUp c.args.now.0 c.args.self.now c.empty_slots-given_up.new.self c.retain.new.self.items (vec_capacity c.retain.new.self)
new_is g c =
    let e = c.empty_slots-given_up.ensures in
    let new = c.empty_slots-given_up.new.self in
    let kept : c.retain.new.self.items ≡ closed new.chain.items new.homes.items =
    filter_same _ (λ slot. is_filled new.chain.items slot) _ (λ x b f called. search rules) _ _ c.retain.ensures.filtered in
    let closes = kept ∙ ap (λ (v : ChainSeen Home). closed v.items new.homes.items) e.chain ∙ ap (λ (v : Vec Slot). closed (later c.args.now.0 c.args.self.now.chain.items) v.items) e.homes in
    is_given_up c.args.now.0 c.args.self.now new c.retain.new.self.items (vec_capacity c.retain.new.self) e.chain e.room e.stock closes (c.retain.ensures.capacity ∙ ap (λ (v : Vec Slot). vec_capacity v) e.homes)

-- and where none was
same_is : (g : Over) (c : Then-given_up-eq0 g) → IsGivenUp c.args.now.0 c.args.self.now c.empty_slots-given_up.new.self c.empty_slots-given_up.new.self.homes.items (vec_capacity c.empty_slots-given_up.new.self.homes)
same_is g c =
    let e = c.empty_slots-given_up.ensures in
    let old = c.args.self.now in
    let new = c.empty_slots-given_up.new.self in
    let none = c.if-given_up-eq0.true in
    let count = e.count in
    let is = ap (λ (v : ChainSeen Home). count_in v.items) e.chain in
    let as_many : count_in (later c.args.now.0 old.chain.items) ≡ count_in old.chain.items = omega arith in
    let closes = ap (λ (v : Vec Slot). v.items) e.homes ∙ closed_same c.args.now.0 (seen old) c.requires as_many in
    is_given_up c.args.now.0 old new new.homes.items (vec_capacity new.homes) e.chain e.room e.stock closes (ap (λ (v : Vec Slot). vec_capacity v) e.homes)

pub returns-clause-table : goal.returns-clause-table
returns-clause-table g c =
    let is = new_is g c in
    subst IsTable (sym is.whole) (table_left c.args.now.0 (seen c.args.self.now) c.requires _ _ is.stock)

pub returns-clause-homes : goal.returns-clause-homes
returns-clause-homes g c = ap homes_in (new_is g c).whole ∙ homes_left c.args.now.0 (seen c.args.self.now) c.requires

pub returns-clause-count : goal.returns-clause-count
returns-clause-count g c =
    let n = c.empty_slots-given_up.result in
    let count = subst (λ (v : ChainSeen Home). n + count_in v.items ≡ count_in c.args.self.now.chain.items) c.empty_slots-given_up.ensures.chain c.empty_slots-given_up.ensures.count in
    ap (λ (t : TableSeen). n + count_of (homes_in t)) (new_is g c).whole ∙ count_left c.args.now.0 (seen c.args.self.now) c.requires n count

pub returns-then-given_up-eq0-clause-table : goal.returns-then-given_up-eq0-clause-table
returns-then-given_up-eq0-clause-table g c =
    let is = same_is g c in
    subst IsTable (sym is.whole) (table_left c.args.now.0 (seen c.args.self.now) c.requires _ _ is.stock)

pub returns-then-given_up-eq0-clause-homes : goal.returns-then-given_up-eq0-clause-homes
returns-then-given_up-eq0-clause-homes g c = ap homes_in (same_is g c).whole ∙ homes_left c.args.now.0 (seen c.args.self.now) c.requires

pub returns-then-given_up-eq0-clause-count : goal.returns-then-given_up-eq0-clause-count
returns-then-given_up-eq0-clause-count g c =
    let count = subst (λ (v : ChainSeen Home). c.empty_slots-given_up.result + count_in v.items ≡ count_in c.args.self.now.chain.items) c.empty_slots-given_up.ensures.chain c.empty_slots-given_up.ensures.count in
    let none = c.if-given_up-eq0.true in
    ap (λ (t : TableSeen). 0 + count_of (homes_in t)) (same_is g c).whole ∙ count_left c.args.now.0 (seen c.args.self.now) c.requires 0 (omega arith)
