use Rattle.std.proofs.Common.{◌≡◌, ◌++◌, drop, map}
use Rattle.mip_afresh_bindings.specs.Showing.{row_seen}
use Rattle.mip_afresh_nodes.specs.Rows.{entry_of}
use Rattle.mip_afresh_nodes.proofs.showing.entries_of.Given as goal

abbrev pub invariant-loop-row : goal.invariant-loop-row
invariant-loop-row l =
    l.entries.items ++ map (entry_of l.node) (map row_seen (drop l.row-index l.rows)) ≡ map (entry_of l.node) (map row_seen l.rows)
