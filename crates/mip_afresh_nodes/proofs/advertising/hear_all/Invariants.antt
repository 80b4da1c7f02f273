use Rattle.std.proofs.Common.{◌≡◌}
use Rattle.mip_history.specs.Advertising.{hears_of_first}
use Rattle.mip_afresh.specs.Tellings.{with_run}
use Rattle.mip_afresh_nodes.proofs.advertising.hear_all.Given as goal

abbrev pub invariant-loop-other : goal.invariant-loop-other
invariant-loop-other l = l.telling ≡ with_run (hears_of_first l.fn.telling.setup l.link.0 l.node.0 l.other l.fn.telling.run) l.fn.telling
