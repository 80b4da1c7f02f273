use Rattle.std.proofs.Common.{◌≡◌}
use Rattle.std.specs.Prelude.{None}
use Rattle.mip_history.specs.Homes.{first_below, lives_at}
use Rattle.mip_afresh.proofs.telling.Telling.resident.Given as goal

abbrev pub invariant-loop-node : goal.invariant-loop-node
invariant-loop-node l = first_below (lives_at l.self.setup l.self.run l.address.0) l.node ≡ None
