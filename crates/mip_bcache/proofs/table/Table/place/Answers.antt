use Rattle.std.proofs.Common.{List, length, subst, rules}
use Rattle.std.specs.List.Sorted.{IsSearchInRange, IsBinarySearchResult}
use Rattle.std.specs.Ordering.{nat_cmp}
use Rattle.std.proofs.lemmas.Fn.{always_returns_same}
use Rattle.mip_chain.specs.declared.slot.Slot.{Slot}
use Rattle.mip_bcache.specs.Table.{seen, key_at}
use Rattle.mip_bcache.proofs.Searches.{searched_table}
use Rattle.mip_bcache.proofs.table.Table.place.Goals as goal

-- the closure gives the home of a slot's row
pub returns : goal.returns
returns c =
    let t = seen c.args.self.now in
    let key = λ (s : Slot). key_at s.0 t.chain.items in
    let facts = c.binary_search_by_key.ensures in
    let by_key = facts.position key (always_returns_same _ _ _ (λ a r g called. search rules)) in
    searched_table t c.requires c.args.home.0 c.binary_search_by_key.result
    (subst (λ (ss : List Slot). IsSearchInRange c.binary_search_by_key.result (length ss)) c.deref.ensures.value facts.bound)
    (subst (λ (ss : List Slot). IsBinarySearchResult (λ (s : Slot). nat_cmp (key s) c.args.home.0) ss c.binary_search_by_key.result) c.deref.ensures.value by_key)
