use Rattle.std.proofs.Common.{◌≡◌}
use Rattle.std.specs.Prelude.{option_map}
use Rattle.mip_history.specs.Waiting.{due_of, earliest}
use Rattle.mip_afresh_nodes.proofs.ticking.earliest.Given as goal

abbrev pub invariant-loop-node : goal.invariant-loop-node
invariant-loop-node l = option_map (λ m. m.0) l.first ≡ earliest (due_of l.telling.setup l.telling.run) l.node
