use Rattle.std.proofs.Common.{◌≡◌, length}
use Rattle.std.specs.Prelude.{Some}
use Rattle.mip_rows.specs.NameTables.{AreNamesFrom, node_numbered}
use Rattle.mip_rows.proofs.numbered.nodes.Given as goal

abbrev pub invariant-loop-node : goal.invariant-loop-node
invariant-loop-node l = AreNamesFrom (node_numbered (Some l.declared)) 0 l.list.items × (length l.list.items ≡ l.node)
