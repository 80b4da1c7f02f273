use Rattle.std.proofs.Common.{◌≡◌, ◌+◌, ◌≤◌, length, vec_capacity}
use Rattle.mip_bcache.specs.Table.{later, count_in, IsStocked}
use Rattle.mip_bcache.proofs.table.Table.empty_slots.Given as goal

abbrev pub invariant-loop-home : goal.invariant-loop-home
invariant-loop-home g l = record {
  room : l.self.room ≡ l.initial.self.room;
  numbers : l.self.numbers ≡ l.initial.self.numbers;
  slots : l.self.chain.room ≡ l.initial.self.chain.room;
  homes : l.self.homes ≡ l.initial.self.homes;
  items : later l.now.0 l.self.chain.items ≡ later l.now.0 l.initial.self.chain.items;
  stock : IsStocked l.self.numbers l.self.room l.self.chain.items l.self.spare.items (vec_capacity l.self.spare);
  count : l.given_up + count_in l.self.chain.items ≡ count_in l.initial.self.chain.items;
  links : l.steps ≤ l.initial.steps + l.given_up;
}

abbrev pub decreases-loop-home : goal.decreases-loop-home
decreases-loop-home g l = length l.self.chain.items
