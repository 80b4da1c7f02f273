use Rattle.std.specs.Prelude.{Some}
use Rattle.mip_rows.specs.Names.{node_name}
use Rattle.mip_rows.specs.NameTables.{node_numbered}
use Rattle.mip_rows.proofs.NameTableLaws.{named_push}
use Rattle.mip_rows.proofs.numbered.nodes.Goals as goal

pub loop-node-preserved : goal.loop-node-preserved
unfolding node_name
loop-node-preserved c =
    named_push (node_numbered (Some c.args.declared.now)) c.loop-node.node c.loop-node.list.items _ c.node_name.result c.loop-node.invariant c.in_ok-push.ensures.items c.node_name.ensures
