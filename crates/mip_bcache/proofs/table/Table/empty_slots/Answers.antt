use Rattle.std.proofs.Common.{◌≡◌, ℕ, ◌+◌, [], ◌∷◌, length-append, vec_capacity, sym, ap, subst, ◌∙◌, arith}
use Rattle.mip_chain.specs.Chain.{ChainSeen}
use Rattle.mip_bcache.specs.declared.home.Home.{Home}
use Rattle.mip_bcache.specs.Table.{count_in, later, IsStocked}
use Rattle.mip_bcache.proofs.Spares.{popped, few_live, count_fits, none_due, shelved}
use Rattle.mip_bcache.proofs.table.Table.empty_slots.Given.{Over}
use Rattle.mip_bcache.proofs.table.Table.empty_slots.Goals.{After-shelve-given_up, In_default}
use Rattle.mip_bcache.proofs.table.Table.empty_slots.Goals as goal

pub shelve-given_up-requires-clause-few : goal.shelve-given_up-requires-clause-few
shelve-given_up-requires-clause-few g c =
    let h = c.in-Some.home in
    let t = c.loop-home.self in
    let pop = popped c.args.now.0 t.numbers t.room t.chain.items h c.loop-home.invariant.stock.each (sym c.pop_due.ensures.value ∙ c.in-Some.is) in
    let few = few_live t.numbers h pop.well in
    let numbers = c.loop-home.invariant.stock.few in
    let long = length-append h.others.items (h.last ∷ []) in
    omega arith

pub overflow_add-given_up : goal.overflow_add-given_up
overflow_add-given_up g c =
    let h = c.in-Some.home in
    let t = c.loop-home.self in
    let pop = popped c.args.now.0 t.numbers t.room t.chain.items h c.loop-home.invariant.stock.each (sym c.pop_due.ensures.value ∙ c.in-Some.is) in
    let old = c.args.self.now in
    let all = count_fits old.numbers old.room old.chain.items old.spare.items (vec_capacity old.spare) c.requires.stock in
    let count = c.loop-home.invariant.count in
    let less = pop.count in
    let long = length-append h.others.items (h.last ∷ []) in
    let is = c.shelve-given_up.ensures.count in
    omega arith

pub loop-home-preserved : goal.loop-home-preserved
loop-home-preserved g c =
    let h = c.in-Some.home in
    let t = c.loop-home.self in
    let pop = popped c.args.now.0 t.numbers t.room t.chain.items h c.loop-home.invariant.stock.each (sym c.pop_due.ensures.value ∙ c.in-Some.is) in
    let chain = c.pop_due.ensures.chain in
    let shelve = c.shelve-given_up.ensures in
    let invariant = c.loop-home.invariant in
    record {
      room = invariant.room;
      numbers = invariant.numbers;
      slots = ap (λ (v : ChainSeen Home). v.room) chain ∙ invariant.slots;
      homes = invariant.homes;
      items = ap (λ (v : ChainSeen Home). later c.args.now.0 v.items) chain ∙ pop.later ∙ invariant.items;
      stock =
          subst (λ (v : ChainSeen Home). IsStocked t.numbers t.room v.items c.shelve-given_up.new.spare.items (vec_capacity c.shelve-given_up.new.spare)) (sym chain)
          (shelved c.args.now.0 t.numbers t.room t.chain.items h t.spare.items c.shelve-given_up.new.spare.items (vec_capacity t.spare) (vec_capacity c.shelve-given_up.new.spare) invariant.stock pop shelve.shelved shelve.capacity);
      count =
          let less = pop.count in
          let rest = ap (λ (v : ChainSeen Home). count_in v.items) chain in
          let long = length-append h.others.items (h.last ∷ []) in
          let is = shelve.count in
          let before = invariant.count in
          omega arith;
      links =
          let step = c.pop_due.ensures.links in
          let is = shelve.count in
          let before = invariant.links in
          omega arith;
    }

-- the chain as it is where no home is due
ended : (g : Over) (c : In_default g) → c.pop_due.new.self ≡ record { room = c.loop-home.self.chain.room; items = c.loop-home.self.chain.items }
ended g c =
    let none = none_due c.args.now.0 c.loop-home.self.chain.items (sym c.pop_due.ensures.value ∙ c.in_default.is) in
    c.pop_due.ensures.chain ∙ ap (λ xs. record { room = c.loop-home.self.chain.room; items = xs }) none.0

pub returns-clause-chain : goal.returns-clause-chain
returns-clause-chain g c =
    let none = none_due c.args.now.0 c.loop-home.self.chain.items (sym c.pop_due.ensures.value ∙ c.in_default.is) in
    ended g c
    ∙ ap (λ (n : ℕ). record { room = n; items = c.loop-home.self.chain.items }) c.loop-home.invariant.slots
    ∙ ap (λ xs. record { room = c.args.self.now.chain.room; items = xs }) (sym none.1 ∙ c.loop-home.invariant.items)

pub returns-clause-stock : goal.returns-clause-stock
returns-clause-stock g c =
    subst (λ (v : ChainSeen Home). IsStocked c.loop-home.self.numbers c.loop-home.self.room v.items c.loop-home.self.spare.items (vec_capacity c.loop-home.self.spare)) (sym (ended g c)) c.loop-home.invariant.stock

pub returns-clause-count : goal.returns-clause-count
returns-clause-count g c = ap (λ (v : ChainSeen Home). c.loop-home.given_up + count_in v.items) (ended g c) ∙ c.loop-home.invariant.count
