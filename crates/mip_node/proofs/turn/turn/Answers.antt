use Rattle.std.proofs.Common.{refl, rules}
use Rattle.mip_outside.proofs.Calling.{granted_on}
use Rattle.mip_node.specs.Nodes.{serving}
use Rattle.mip_node.specs.Settings.{said}
use Rattle.mip_node.proofs.Calling.{ends_on}
use Rattle.mip_node.proofs.Growing.{err_any, err_on}
use Rattle.mip_node.proofs.TurnLaws.{turn_done, early_broke, receive_broke, answer_broke}
use Rattle.mip_node.proofs.turn.turn.Goals as goal

pub returns-in_err-act_first-clause-broke : goal.returns-in_err-act_first-clause-broke
returns-in_err-act_first-clause-broke g c =
    let sent = g.L.Link.sent in
    let coming = g.L.Link.coming in
    err_any c.from_residual.result
    (early_broke (said c.args.setting.now) c.args.turn c.now.result (g.C.Clock.ahead c.args.clock.now) (coming c.args.link.now) (coming c.act_first.new.link)
    (serving c.args.node.now (sent c.args.link.now)) (sent c.act_first.new.link) c.now.ensures.told c.act_first.ensures.kept.0 c.in_err-act_first.ensures.cut)

pub returns-in_err-datagram-clause-broke : goal.returns-in_err-datagram-clause-broke
returns-in_err-datagram-clause-broke g c =
    let sent = g.L.Link.sent in
    let coming = g.L.Link.coming in
    err_any c.from_residual-in_err-datagram.result
    (receive_broke (said c.args.setting.now) c.args.turn c.now.result (g.C.Clock.ahead c.args.clock.now) (coming c.args.link.now) (coming c.act_first.new.link) (coming c.next_datagram.new.link)
    (serving c.args.node.now (sent c.args.link.now)) c.act_first.new.node (sent c.act_first.new.link) (sent c.next_datagram.new.link)
    c.now.ensures.told c.act_first.ensures.kept.0 c.in_err-datagram.ensures.left c.in_ok-act_first.ensures.ok c.next_datagram.ensures.kept.0)

pub returns-clause-ok : goal.returns-clause-ok
returns-clause-ok g c =
    let sent = g.L.Link.sent in
    let coming = g.L.Link.coming in
    turn_done c.receive.result (said c.args.setting.now) c.args.turn c.now.result c.in_ok-datagram.datagram (g.C.Clock.ahead c.args.clock.now) (coming c.args.link.now) (coming c.act_first.new.link)
    (serving c.args.node.now (sent c.args.link.now)) (serving c.receive.new.node (sent c.receive.new.link)) c.act_first.new.node (sent c.act_first.new.link) (sent c.next_datagram.new.link)
    c.now.ensures.told c.act_first.ensures.kept.0 c.in_ok-datagram.ensures.came c.in_ok-act_first.ensures.ok c.next_datagram.ensures.kept.0 c.receive.ensures.ok

pub returns-clause-broke : goal.returns-clause-broke
returns-clause-broke g c =
    let sent = g.L.Link.sent in
    let coming = g.L.Link.coming in
    err_on c.receive.result
    (answer_broke (said c.args.setting.now) c.args.turn c.now.result c.in_ok-datagram.datagram (g.C.Clock.ahead c.args.clock.now)
    (coming c.args.link.now) (coming c.act_first.new.link) (coming c.next_datagram.new.link) (coming c.receive.new.link)
    (serving c.args.node.now (sent c.args.link.now)) c.act_first.new.node (sent c.act_first.new.link) (sent c.next_datagram.new.link) (sent c.receive.new.link)
    c.now.ensures.told c.act_first.ensures.kept.0 c.in_ok-datagram.ensures.came c.in_ok-datagram.ensures.ok c.receive.ensures.kept.0 c.in_ok-act_first.ensures.ok c.next_datagram.ensures.kept.0)
    c.receive.ensures.cut

pub returns-in_err-datagram-clause-calls : goal.returns-in_err-datagram-clause-calls
returns-in_err-datagram-clause-calls g c = ends_on _ _ _ (c.in_ok-act_first.ensures.calls.whole refl) (search rules)

pub returns-clause-calls : goal.returns-clause-calls
returns-clause-calls g c =
    ends_on _ _ _ (granted_on _ _ _ (c.in_ok-act_first.ensures.calls.whole refl) (c.in_ok-datagram.ensures.calls.whole refl)) c.receive.ensures.calls
