use Rattle.std.proofs.Common.{◌≡◌, ◌++◌, drop, take, map}
use Rattle.mip_bcache.specs.Seen.{until_set}
use Rattle.mip_bcache.proofs.home.keep_until.Given as goal

abbrev pub invariant-loop-row : goal.invariant-loop-row
invariant-loop-row l = l.rows ≡ map (until_set l.until.0) (take l.row-index l.initial.rows) ++ drop l.row-index l.initial.rows
