use Rattle.std.specs.Prelude.{Some}
use Rattle.mip_rows.specs.Names.{link_name}
use Rattle.mip_rows.specs.NameTables.{link_numbered}
use Rattle.mip_rows.proofs.NameTableLaws.{named_push}
use Rattle.mip_rows.proofs.numbered.links.Goals as goal

pub loop-link-preserved : goal.loop-link-preserved
unfolding link_name
loop-link-preserved c =
    named_push (link_numbered (Some c.args.declared.now)) c.loop-link.link c.loop-link.list.items _ c.link_name.result c.loop-link.invariant c.in_ok-push.ensures.items c.link_name.ensures
