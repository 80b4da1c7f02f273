use Rattle.mip_rows.specs.Names.{names_in}
use Rattle.mip_rows.specs.NameTables.{node_numbered}
use Rattle.mip_rows.proofs.NameTableLaws.{named}
use Rattle.mip_rows.proofs.numbered.node_in.Goals as goal

pub returns-in-Some-default : goal.returns-in-Some-default
returns-in-Some-default c = named (node_numbered (names_in c.args.declared)) c.args.node.0 c.args.list.now c.in-Some-default.name.now c.requires c.in-Some-default.ensures.lookup.3.0 (c.in-Some-default.ensures.lookup.3.1 c.in-Some-default.name.now)
