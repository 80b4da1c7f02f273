use Rattle.std.proofs.Common.{refl}
use Rattle.mip_node.specs.Nodes.{serving}
use Rattle.mip_node.specs.Settings.{said}
use Rattle.mip_node.proofs.Calling.{ends_on}
use Rattle.mip_node.proofs.Growing.{err_any, err_on, not_yet, before_grew, worked_between, paying_between}
use Rattle.mip_node.proofs.asking.act_first.Goals as goal

pub returns-in_err-begin-clause-cut : goal.returns-in_err-begin-clause-cut
returns-in_err-begin-clause-cut g c =
    err_any c.from_residual.result (not_yet _ _ (before_grew (said c.args.setting.now) c.args.turn c.args.now.moment.0 (serving c.args.node.now (g.L.Link.sent c.args.link.now))))

pub returns-in_err-work-clause-cut : goal.returns-in_err-work-clause-cut
returns-in_err-work-clause-cut g c =
    err_any c.from_residual-in_err-work.result
    (worked_between (said c.args.setting.now) c.args.turn c.args.now.moment.0 c.args.node.now c.begin.new.self (g.L.Link.sent c.args.link.now) (g.L.Link.sent c.work.new.link)
    c.in_ok-begin.ensures.ok c.in_err-work.ensures.cut)

pub returns-clause-cut : goal.returns-clause-cut
returns-clause-cut g c =
    err_on c.pay.result
    (paying_between (said c.args.setting.now) c.args.turn c.args.now.moment.0 c.args.node.now c.begin.new.self (g.L.Link.sent c.args.link.now)
    (serving c.work.new.node (g.L.Link.sent c.work.new.link)) (g.L.Link.sent c.pay.new.link) c.in_ok-begin.ensures.ok c.in_ok-work.ensures.ok)
    c.pay.ensures.cut

pub returns-clause-calls : goal.returns-clause-calls
returns-clause-calls g c = ends_on _ _ _ (c.in_ok-work.ensures.calls.whole refl) c.pay.ensures.calls
