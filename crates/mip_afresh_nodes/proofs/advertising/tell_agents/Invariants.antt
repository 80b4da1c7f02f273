use Rattle.std.proofs.Common.{◌≡◌}
use Rattle.mip_history.specs.Advertising.{agents_hear}
use Rattle.mip_afresh.specs.Tellings.{with_run}
use Rattle.mip_afresh_nodes.proofs.advertising.tell_agents.Given as goal

abbrev pub invariant-loop-node : goal.invariant-loop-node
invariant-loop-node l = l.telling ≡ with_run (agents_hear l.fn.telling.setup l.link.0 l.node l.fn.telling.run) l.fn.telling
