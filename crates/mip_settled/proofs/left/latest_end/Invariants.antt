use Rattle.std.proofs.Common.{◌≡◌, length}
use Rattle.mip_binding.specs.Homes.{latest}
use Rattle.mip_settled.specs.Acceptances.{left_in}
use Rattle.mip_settled.proofs.left.latest_end.Given as goal

abbrev pub invariant-loop-entry : goal.invariant-loop-entry
invariant-loop-entry l = latest l.late (left_in l.node.0 l.home.0 l.rest) ≡ latest l.moment (left_in l.node.0 l.home.0 l.entries)

abbrev pub decreases-loop-entry : goal.decreases-loop-entry
decreases-loop-entry l = length l.rest
