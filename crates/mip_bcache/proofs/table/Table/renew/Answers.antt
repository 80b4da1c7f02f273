use Rattle.std.proofs.Common.{◌≤◌, ◌≡◌, ◌<◌, ◌+◌, ℕ, length, get_or, set, refl, sym, ap, subst, ◌∙◌, arith, vec_capacity}
use Rattle.std.specs.Prelude.{Option, Some, None, option_map, is_some, slice_get}
use Rattle.std.specs.Vec.{with_item}
use Rattle.mip_chain.specs.Chain.{Item, ChainSeen, find, put, without}
use Rattle.mip_chain.specs.declared.slot.Slot.{Slot}
use Rattle.mip_bcache.specs.declared.home.Home.{Home}
use Rattle.mip_bcache.specs.declared.table.Table.{Table}
use Rattle.mip_bcache.specs.Seen.{HomeRows, row_for}
use Rattle.mip_bcache.specs.Table.{TableSeen, seen, key_of, homes_in, item_for, IsHome, IsTable, IsPlace}
use Rattle.mip_bcache.proofs.Puts.{IsPut, replaced, as_many, slot_left, has_place}
use Rattle.mip_bcache.proofs.Searches.{row_at_place}
use Rattle.mip_bcache.proofs.Renewals.{made_well, are_left, others_left, left_fit, put_seen}
use Rattle.mip_bcache.proofs.Spares.{found_well}
use Rattle.mip_bcache.proofs.table.Table.renew.Goals.{In-Some, After-self-1}
use Rattle.mip_bcache.proofs.table.Table.renew.Goals as goal

-- the home at a place
at_place : (t : TableSeen) (home at : ℕ) (s : Slot) → IsTable t → IsPlace (homes_in t) home at → s ≡ get_or t.homes at s → option_map (λ x. x.value) (find s.0 t.chain.items) ≡ slice_get (homes_in t) at
at_place t home at s table place is =
    ap (λ (slot : Slot). option_map (λ x. x.value) (find slot.0 t.chain.items)) is ∙ row_at_place t.chain.items t.homes s table.filled at place.inside

well_of : (t : TableSeen) (s : Slot) (h : Home) → IsTable t → option_map (λ x. x.value) (find s.0 t.chain.items) ≡ Some h → IsHome t.numbers h
well_of t s h table is = by (find s.0 t.chain.items) refl is
  where
    by : (o : Option (Item Home)) → find s.0 t.chain.items ≡ o → option_map (λ x. x.value) o ≡ Some h → IsHome t.numbers h
    by None e f = absurd cc
    by (Some x) e f = let same : x.value ≡ h = cc in subst (IsHome t.numbers) same (found_well t.numbers s.0 t.chain.items x table.stock.each e)

pub index-old-requires : goal.index-old-requires
index-old-requires c =
    let long = c.args.self.now.homes.ok.0 in
    let many = as_many (seen c.args.self.now) c.requires.table in
    let within = c.requires.place.inside in
    omega arith

pub renewed-renewed-requires-clause-room : goal.renewed-renewed-requires-clause-room
renewed-renewed-requires-clause-room c =
    let t = seen c.args.self.now in
    let well = well_of t c.index-old.result.now c.in-Some.kept c.requires.table (sym c.take.ensures.value ∙ c.in-Some.is) in
    let fits = left_fit t.numbers c.args.number _ (row_for 0 c.args.home c.args.number c.args.accepted) refl c.requires.number (others_left t.numbers c.args.number c.in-Some.kept well) in
    let room = well.room in
    omega arith

pub unreachable-requires : goal.unreachable-requires
unreachable-requires c =
    let t = seen c.args.self.now in
    let none = sym (at_place t c.args.home.0 c.args.at c.index-old.result.now c.requires.table c.requires.place c.index-old.ensures) ∙ sym c.take.ensures.value ∙ c.in-None.is in
    let some = has_place (homes_in t) c.args.at c.requires.place.inside in
    let e = ap (λ (o : Option Home). is_some o) none in
    cc

-- the chain without the slot at the place
emptied : (old : Table) (new : ChainSeen Home) (at : ℕ) (s : Slot) → new ≡ record { room = old.chain.room; items = without s.0 old.chain.items } → s ≡ get_or old.homes.items at s →
    new ≡ record { room = old.chain.room; items = without (get_or old.homes.items at s).0 old.chain.items }
emptied old new at s taken is = taken ∙ ap (λ (slot : Slot). record { room = old.chain.room; items = without slot.0 old.chain.items }) is

pub fill-requires : goal.fill-requires
fill-requires c =
    subst (λ (v : ChainSeen Home). length v.items < v.room) (sym (emptied c.args.self.now c.take.new.self c.args.at c.index-old.result.now c.take.ensures.chain c.index-old.ensures))
    (slot_left (seen c.args.self.now) c.requires.table c.args.at c.index-old.result.now c.requires.place.inside)

pub index_mut-requires : goal.index_mut-requires
index_mut-requires c =
    let long = c.args.self.now.homes.ok.0 in
    let many = as_many (seen c.args.self.now) c.requires.table in
    let within = c.requires.place.inside in
    omega arith

no_less : (n : ℕ) → n ≤ n
no_less n = omega arith

is_put : (c : After-self-1) → IsPut c.renewed-renewed.result (seen c.args.self.now) (seen (record { room = c.args.self.now.room; numbers = c.args.self.now.numbers; chain = c.fill.new.chain; homes = with_item c.args.self.now.homes c.args.at c.fill.result; spare = c.args.self.now.spare }))
is_put c =
    let old = c.args.self.now in
    let t = seen old in
    let h = c.renewed-renewed.result in
    let slot = c.index-old.result.now in
    let left = emptied old c.take.new.self c.args.at slot c.take.ensures.chain c.index-old.ensures in
    let empty = subst (λ (v : ChainSeen Home). find c.fill.result.0 v.items ≡ None) left c.fill.ensures.empty in
    let chain = c.fill.ensures.chain ∙ ap (λ (v : ChainSeen Home). record { room = v.room; items = put (item_for c.fill.result.0 h) v.items }) left in
    let new = ap (λ (v : ChainSeen Home). record { room = old.room; numbers = old.numbers; chain = v; homes = set old.homes.items c.args.at c.fill.result; capacity = vec_capacity old.homes; spare = old.spare.items; shelf = vec_capacity old.spare }) chain in
    let before = well_of t slot c.in-Some.kept c.requires.table (sym c.take.ensures.value ∙ c.in-Some.is) in
    let key : key_of h ≡ c.args.home.0 = ap (λ (k : HomeRows). k.home) c.renewed-renewed.ensures.seen in
    let room : old.numbers ≤ vec_capacity h.others + 1 = (let given = before.room in let grows = c.renewed-renewed.ensures.capacity in omega arith) in
    let well = made_well old.numbers c.args.now.0 c.args.home c.args.number c.args.accepted _ h c.renewed-renewed.ensures.seen c.requires.number (are_left old.numbers c.args.number c.args.home c.args.accepted c.in-Some.kept before) room in
    let place = subst (λ (k : ℕ). IsPlace (homes_in t) k c.args.at) (sym key) c.requires.place in
    subst (IsPut h t) (sym new) (replaced t c.requires.table h well c.args.at c.fill.result (vec_capacity old.homes) (no_less (vec_capacity old.homes)) slot empty place)

pub returns-clause-table : goal.returns-clause-table
returns-clause-table c = (is_put c).table

pub returns-clause-homes : goal.returns-clause-homes
returns-clause-homes c =
    let t = seen c.args.self.now in
    let found = c.requires.place.found ∙ sym (at_place t c.args.home.0 c.args.at c.index-old.result.now c.requires.table c.requires.place c.index-old.ensures) ∙ sym c.take.ensures.value ∙ c.in-Some.is in
    put_seen t _ c.renewed-renewed.result c.args.now.0 c.args.home c.args.number c.args.accepted _ (Some c.in-Some.kept) (is_put c).rows c.renewed-renewed.ensures.seen refl found
