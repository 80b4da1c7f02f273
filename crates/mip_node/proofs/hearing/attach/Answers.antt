use Rattle.mip_node.specs.Nodes.{serving}
use Rattle.mip_node.specs.Settings.{said}
use Rattle.mip_node.proofs.Growing.{err_any, not_yet, told_grew}
use Rattle.mip_node.proofs.hearing.attach.Goals as goal

pub returns-in_err-note-clause-cut : goal.returns-in_err-note-clause-cut
returns-in_err-note-clause-cut g c =
    err_any c.from_residual.result (not_yet _ _ (told_grew (said c.args.setting.now) c.args.now.moment.0 c.args.prefix.0 (serving c.args.node.now (g.L.Link.sent c.args.link.now))))
