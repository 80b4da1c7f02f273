use Rattle.mip_roles.specs.Calls.{asked}
use Rattle.mip_node.specs.Nodes.{serving}
use Rattle.mip_node.specs.Settings.{said}
use Rattle.mip_node.proofs.Growing.{err_any, err_on, not_yet, asked_grew, asked_between}
use Rattle.mip_node.proofs.asking.ask.Goals as goal

pub returns-in_err-answers-clause-cut : goal.returns-in_err-answers-clause-cut
returns-in_err-answers-clause-cut g c =
    err_any c.from_residual.result (not_yet _ _ (asked_grew (said c.args.setting.now) c.args.now.moment.0 (asked c.args.call) (serving c.args.node.now (g.L.Link.sent c.args.link.now))))

pub returns-clause-cut : goal.returns-clause-cut
returns-clause-cut g c =
    err_on c.answer_all.result
    (asked_between (said c.args.setting.now) c.args.now.moment.0 (asked c.args.call) c.args.node.now c.act.new.self (g.L.Link.sent c.args.link.now) (g.L.Link.sent c.answer_all.new.link)
    c.in_ok-answers.answers c.in_ok-answers.ensures.answers c.in_ok-answers.ensures.after)
    c.answer_all.ensures.cut
