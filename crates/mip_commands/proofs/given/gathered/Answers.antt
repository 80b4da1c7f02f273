use Rattle.std.proofs.Common.{rules, ◌≡◌, refl, length}
use Rattle.std.specs.Vec.Iter.{into_iter_items, into_iter_len}
use Rattle.std.proofs.lemmas.Iterator.{items_from_collect}
use Rattle.std.proofs.lemmas.Iterator.Adapters.{YieldsList-from_vec}
use Rattle.mip_commands.proofs.given.gathered.Goals as goal

pub returns : goal.returns
returns c =
    let size : into_iter_len c.args.left ≡ length (into_iter_items c.args.left) = search rules in
    items_from_collect _ c.collect.ensures.ran (YieldsList-from_vec {s = c.args.left} (into_iter_items c.args.left) refl size)
