use Rattle.std.proofs.Common.{◌≡◌, ◌≤◌, ◌+◌, length, map}
use Rattle.mip_binding.specs.Held.{homes_with_floor}
use Rattle.mip_afresh_bindings.specs.Accepted.{acceptance_seen}
use Rattle.mip_afresh_bindings.proofs.CountLaws.{counted}
use Rattle.mip_afresh_bindings.proofs.room.count.Given as goal

abbrev pub invariant-loop-one : goal.invariant-loop-one
invariant-loop-one l = record {
  within : l.count + length l.rest ≤ length l.accepted;
  rest : l.count + counted (map acceptance_seen l.accepted) l.now.0 (map acceptance_seen l.rest) ≡ length (homes_with_floor (map acceptance_seen l.accepted) l.now.0);
}

abbrev pub decreases-loop-one : goal.decreases-loop-one
decreases-loop-one l = length l.rest
