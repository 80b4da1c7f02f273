use Rattle.std.proofs.Common.{◌≡◌}
use Rattle.mip_history.specs.Delivery.{carried}
use Rattle.mip_afresh.specs.Tellings.{with_run}
use Rattle.mip_afresh_nodes.proofs.delivering.carry.Given as goal

abbrev pub invariant-loop-turn : goal.invariant-loop-turn
invariant-loop-turn l = l.telling ≡ with_run (carried l.fn.telling.setup l.fn.telling.run l._turn) l.fn.telling
