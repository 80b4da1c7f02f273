use Rattle.std.proofs.Common.{◌≡◌, ◌++◌, take, drop}
use Rattle.std.specs.Prelude.{map}
use Rattle.mip_bulist.specs.Rows.{rested_row}
use Rattle.mip_bulist.proofs.rows.rest_each.Given as goal

abbrev pub invariant-loop-row : goal.invariant-loop-row
invariant-loop-row l = l.row-items ≡ map rested_row (take l.row-index l.fn.rows) ++ drop l.row-index l.fn.rows
