use Rattle.std.specs.Prelude.{Some}
use Rattle.mip_rows.specs.Names.{outsider_name}
use Rattle.mip_rows.proofs.NameTableLaws.{named_push}
use Rattle.mip_rows.proofs.numbered.outsiders.Goals as goal

pub loop-outsider-preserved : goal.loop-outsider-preserved
unfolding outsider_name
loop-outsider-preserved c =
    named_push (outsider_name (Some c.args.declared.now)) c.loop-outsider.outsider c.loop-outsider.list.items _ c.outsider_name.result c.loop-outsider.invariant c.in_ok-push.ensures.items c.outsider_name.ensures
