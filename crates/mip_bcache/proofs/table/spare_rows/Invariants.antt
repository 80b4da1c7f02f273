use Rattle.std.proofs.Common.{◌≡◌, ◌≤◌, length, vec_capacity}
use Rattle.std.specs.List.{AllByRecursion}
use Rattle.mip_bcache.specs.Table.{IsSpare}
use Rattle.mip_bcache.proofs.table.spare_rows.Given as goal

abbrev pub invariant-loop : goal.invariant-loop
invariant-loop l = record {
  count : length l.spare.items ≡ l.counter;
  room : l.room ≤ vec_capacity l.spare;
  each : AllByRecursion (IsSpare l.numbers) l.spare.items;
}
