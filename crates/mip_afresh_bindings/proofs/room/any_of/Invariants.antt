use Rattle.std.proofs.Common.{◌≡◌, drop, map}
use Rattle.mip_afresh_bindings.specs.Accepted.{acceptance_seen}
use Rattle.mip_afresh_bindings.specs.Counting.{any_of}
use Rattle.mip_afresh_bindings.proofs.room.any_of.Given as goal

abbrev pub invariant-loop-one : goal.invariant-loop-one
invariant-loop-one l = any_of l.home.0 (map acceptance_seen (drop l.one-index l.accepted)) ≡ any_of l.home.0 (map acceptance_seen l.accepted)
