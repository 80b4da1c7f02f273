use Rattle.std.proofs.Common.{◌≡◌, ◌++◌, drop, map}
use Rattle.mip_history.specs.Nodes.{home_entry}
use Rattle.mip_afresh_nodes.proofs.showing.home_entries.Given as goal

abbrev pub invariant-loop-row : goal.invariant-loop-row
invariant-loop-row l = l.entries.items ++ map (home_entry l.node.0) (drop l.row-index l.rows) ≡ map (home_entry l.node.0) l.rows
