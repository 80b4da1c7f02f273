use Rattle.std.proofs.Common.{◌≡◌, drop}
use Rattle.mip_history.specs.Restarting.{homes_left}
use Rattle.mip_afresh.specs.Tellings.{with_run}
use Rattle.mip_afresh_nodes.proofs.restarting.give_up_homes.Given as goal

abbrev pub invariant-loop-row : goal.invariant-loop-row
invariant-loop-row l = with_run (homes_left l.telling.setup l.node.0 (drop l.row-index l.rows) l.telling.run) l.telling ≡ with_run (homes_left l.fn.telling.setup l.node.0 l.rows l.fn.telling.run) l.fn.telling
