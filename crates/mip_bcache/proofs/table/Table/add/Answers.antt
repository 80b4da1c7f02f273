use Rattle.std.proofs.Common.{◌≡◌, ◌≤◌, ℕ, List, [], ◌∷◌, ◌++◌, ◌+◌, length, length-append, refl, sym, ap, subst, ◌∙◌, arith, vec_len, vec_capacity, option_to_list}
use Rattle.std.specs.Prelude.{Option, None, false}
use Rattle.std.specs.List.{AllByRecursion, insert}
use Rattle.std.specs.Global.{Vec}
use Rattle.mip_chain.specs.Chain.{ChainSeen, put}
use Rattle.mip_chain.specs.declared.slot.Slot.{Slot}
use Rattle.mip_bcache.specs.declared.row.Row.{Row}
use Rattle.mip_bcache.specs.declared.home.Home.{Home}
use Rattle.mip_bcache.specs.Seen.{HomeRows, rows_made, no_room}
use Rattle.mip_bcache.specs.Table.{seen, key_of, homes_in, rows_seen, item_for, IsSpare, IsGap}
use Rattle.mip_bcache.proofs.Slots.{length_rows}
use Rattle.mip_bcache.proofs.Puts.{IsPut, changed, added, as_many, slot_free}
use Rattle.mip_bcache.proofs.Renewals.{made_well, none_left, put_seen, all_front}
use Rattle.mip_bcache.proofs.table.Table.add.Goals.{After-made, In-Ok}
use Rattle.mip_bcache.proofs.table.Table.add.Goals as goal

pub fill-slot-requires : goal.fill-slot-requires
fill-slot-requires c = slot_free (seen c.args.self.now) c.requires.table c.args.home.0 c.requires.gap.none c.requires.free

pub insert-requires : goal.insert-requires
insert-requires c =
    let long = c.args.self.now.homes.ok.0 in
    let many = as_many (seen c.args.self.now) c.requires.table in
    let within = c.requires.gap.inside in
    omega arith

pub unreachable-requires : goal.unreachable-requires
unreachable-requires c =
    let t = seen c.args.self.now in
    let long = c.args.self.now.homes.ok.0 in
    let many = as_many t c.requires.table in
    let free = slot_free t c.requires.table c.args.home.0 c.requires.gap.none c.requires.free in
    let room = c.requires.table.room in
    let rows = length_rows t.chain.items t.homes c.requires.table.loose in
    let capacity = c.requires.table.capacity in
    let full : vec_capacity c.args.self.now.homes ≤ vec_len c.args.self.now.homes = c.in-Err.ensures.full in
    omega arith

pub unreachable-requires-in-None : goal.unreachable-requires-in-None
unreachable-requires-in-None c =
    let t = seen c.args.self.now in
    let free = slot_free t c.requires.table c.args.home.0 c.requires.gap.none c.requires.free in
    let room = c.requires.table.room in
    let all = c.requires.table.stock.all in
    let long = c.args.self.now.spare.ok.0 in
    let none = c.in-None.ensures.cases.0 in
    omega arith

-- what was spare is what is left, and the memory that the home has
spare_is : (c : In-Ok) → c.args.self.now.spare.items ≡ c.pop.new.self.items ++ c.in-Some.rows ∷ []
spare_is c = c.pop.ensures.items ∙ ap (λ (o : Option (Vec Row)). c.pop.new.self.items ++ option_to_list o) c.in-Some.is

made_is : (c : In-Ok) → rows_seen c.made.result ≡ rows_made c.args.now.0 c.args.home c.args.number c.args.accepted []
made_is c =
    let spares = all_front (IsSpare c.args.self.now.numbers) c.pop.new.self.items c.in-Some.rows (subst (AllByRecursion (IsSpare c.args.self.now.numbers)) (spare_is c) c.requires.table.stock.spares) in
    c.made.ensures.seen ∙ ap (rows_made c.args.now.0 c.args.home c.args.number c.args.accepted) spares.1.empty

is_put : (c : In-Ok) → IsPut c.made.result (seen c.args.self.now) (seen (record { room = c.args.self.now.room; numbers = c.args.self.now.numbers; chain = c.fill-slot.new.chain; homes = c.insert.new.self; spare = c.pop.new.self }))
is_put c =
    let old = c.args.self.now in
    let h = c.made.result in
    let items = put (item_for c.fill-slot.result.0 h) old.chain.items in
    let capacity = vec_capacity c.insert.new.self in
    let spare = c.pop.new.self in
    let spares = all_front (IsSpare old.numbers) spare.items c.in-Some.rows (subst (AllByRecursion (IsSpare old.numbers)) (spare_is c) c.requires.table.stock.spares) in
    let one : length spare.items + 1 ≡ length old.spare.items =
    (let long = ap (λ (l : List (Vec Row)). length l) (spare_is c) in let both = length-append spare.items (c.in-Some.rows ∷ []) in omega arith) in
    let shelf : vec_capacity old.spare ≤ vec_capacity spare = (let same = c.pop.ensures.capacity in omega arith) in
    let key : key_of h ≡ c.args.home.0 = ap (λ (k : HomeRows). k.home) (made_is c) in
    let room : old.numbers ≤ vec_capacity h.others + 1 = (let given = spares.1.room in let same = c.made.ensures.capacity in omega arith) in
    let well = made_well old.numbers c.args.now.0 c.args.home c.args.number c.args.accepted [] h (made_is c) c.requires.number (none_left old.numbers c.args.number) room in
    let new : seen (record { room = old.room; numbers = old.numbers; chain = c.fill-slot.new.chain; homes = c.insert.new.self; spare = spare }) ≡ changed (seen old) items (insert old.homes.items c.args.at c.fill-slot.result) capacity spare.items (vec_capacity spare) =
    ap (λ (v : ChainSeen Home). record { room = old.room; numbers = old.numbers; chain = v; homes = c.insert.new.self.items; capacity = capacity; spare = spare.items; shelf = vec_capacity spare }) c.fill-slot.ensures.chain
    ∙ ap (λ (ss : List Slot). changed (seen old) items ss capacity spare.items (vec_capacity spare)) c.in-Ok.ensures.items in
    let gap = subst (λ (k : ℕ). IsGap (homes_in (seen old)) k c.args.at) (sym key) c.requires.gap in
    let free = subst (λ (k : ℕ). no_room key_of old.room k (homes_in (seen old)) ≡ false) (sym key) c.requires.free in
    subst (IsPut h (seen old)) (sym new)
    (added (seen old) c.requires.table h well c.args.at c.fill-slot.result capacity c.insert.ensures.capacity spare.items (vec_capacity spare) spares.0 one shelf c.fill-slot.ensures.empty gap free)

pub returns-clause-table : goal.returns-clause-table
returns-clause-table c = (is_put c).table

pub returns-clause-homes : goal.returns-clause-homes
returns-clause-homes c =
    put_seen (seen c.args.self.now) _ c.made.result c.args.now.0 c.args.home c.args.number c.args.accepted [] None (is_put c).rows (made_is c) refl c.requires.gap.none
