use Rattle.std.proofs.Common.{◌≡◌}
use Rattle.mip_history.specs.Waiting.{ticked}
use Rattle.mip_afresh.specs.Tellings.{with_run}
use Rattle.mip_afresh_nodes.proofs.ticking.tick_all.Given as goal

abbrev pub invariant-loop-node : goal.invariant-loop-node
invariant-loop-node l = l.telling ≡ with_run (ticked l.fn.telling.setup l.node l.fn.telling.run) l.fn.telling
