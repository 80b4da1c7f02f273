use Rattle.std.proofs.Common.{◌∷◌, [], List, length, length-append, sym, ap, subst, arith}
use Rattle.std.specs.List.{AllByRecursion}
use Rattle.std.specs.Global.{Vec}
use Rattle.mip_binding.proofs.RowLaws.{all-push}
use Rattle.mip_bcache.specs.declared.row.Row.{Row}
use Rattle.mip_bcache.specs.Table.{IsSpare}
use Rattle.mip_bcache.proofs.table.spare_rows.Goals as goal

pub loop-init : goal.loop-init
loop-init c =
    let empty = c.in_ok-spare.ensures.items in
    record {
      count = ap (λ (l : List (Vec Row)). length l) empty;
      room = c.in_ok-spare.ensures.capacity;
      each = subst (AllByRecursion (IsSpare c.args.numbers)) (sym empty) tt;
    }

pub loop-preserved : goal.loop-preserved
loop-preserved c =
    let rows = c.in_ok-with_capacity.field-0 in
    let whole = c.in_ok-push.ensures.items in
    let one = length-append c.loop.spare.items (rows ∷ []) in
    let long = ap (λ (l : List (Vec Row)). length l) whole in
    let count = c.loop.invariant.count in
    let room = c.loop.invariant.room in
    let grows = c.in_ok-push.ensures.capacity in
    let capacity = c.in_ok-with_capacity.ensures.capacity in
    record {
      count = omega arith;
      room = omega arith;
      each = subst (AllByRecursion (IsSpare c.args.numbers)) (sym whole) (all-push (IsSpare c.args.numbers) c.loop.spare.items rows c.loop.invariant.each (record { empty = c.in_ok-with_capacity.ensures.items; room = omega arith }));
    }
