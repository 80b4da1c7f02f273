use Rattle.std.proofs.Common.{◌-◌, ◌≤◌}
use Rattle.mip_bcache.specs.Seen.{rows_of_home}
use Rattle.mip_bcache.specs.Table.{live_in, rows_seen}
use Rattle.mip_bcache.proofs.Numbers.{HasPassed}
use Rattle.mip_bcache.proofs.home.Home.row.Given as goal

abbrev pub invariant-loop-number : goal.invariant-loop-number
invariant-loop-number l = record {
  within : l.number ≤ l.numbers;
  has : HasPassed (live_in l.self) (rows_of_home (rows_seen l.self)) l.number l.place l.initial.place;
}

abbrev pub decreases-loop-number : goal.decreases-loop-number
decreases-loop-number l = l.numbers - l.number
