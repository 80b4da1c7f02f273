use Rattle.std.proofs.Common.{◌≡◌, drop}
use Rattle.mip_bcache.specs.Seen.{latest}
use Rattle.mip_bcache.proofs.home.latest_end.Given as goal

abbrev pub invariant-loop-row : goal.invariant-loop-row
invariant-loop-row l = latest l.late (drop l.row-index l.rows) ≡ latest l.fn.moment.0 l.rows
