use Rattle.std.proofs.Common.{◌≡◌}
use Rattle.mip_history.specs.Advertising.{mobiles_told}
use Rattle.mip_afresh.specs.Tellings.{with_run}
use Rattle.mip_afresh_nodes.proofs.advertising.tell_mobiles.Given as goal

abbrev pub invariant-loop-node : goal.invariant-loop-node
invariant-loop-node l = l.telling ≡ with_run (mobiles_told l.fn.telling.setup l.link.0 l.node l.fn.telling.run) l.fn.telling
