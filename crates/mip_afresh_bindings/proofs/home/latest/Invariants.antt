use Rattle.std.proofs.Common.{◌≡◌, length, map}
use Rattle.mip_binding.specs.Homes.{latest}
use Rattle.mip_afresh_bindings.specs.Accepted.{binding_seen}
use Rattle.mip_afresh_bindings.proofs.home.latest.Given as goal

abbrev pub invariant-loop-one : goal.invariant-loop-one
invariant-loop-one l = latest l.late (map binding_seen l.rest) ≡ latest l.moment (map binding_seen l.live)

abbrev pub decreases-loop-one : goal.decreases-loop-one
decreases-loop-one l = length l.rest
