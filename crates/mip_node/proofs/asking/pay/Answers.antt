use Rattle.std.proofs.Common.{◌∙◌, refl, arith, rules}
use Rattle.mip_outside.proofs.Calling.{granted_on}
use Rattle.mip_node.specs.Nodes.{serving}
use Rattle.mip_node.specs.Settings.{said}
use Rattle.mip_node.proofs.Calling.{ends_on}
use Rattle.mip_node.proofs.Growing.{err_any, paid_more, paid_between}
use Rattle.mip_node.proofs.asking.pay.Goals as goal

pub returns-in_err-pay_one-clause-cut : goal.returns-in_err-pay_one-clause-cut
returns-in_err-pay_one-clause-cut g c =
    let sent = g.L.Link.sent in
    err_any c.from_residual.result
    (paid_between (said c.args.setting.now) c.args.turn c.args.now.moment.0 (said c.args.setting.now).payloads c.as_slice-payload-items.result.now c.loop-payload.payload-index c.payload-item.result
    (serving c.args.node.now (sent c.args.link.now)) (serving c.loop-payload.node (sent c.loop-payload.link)) (sent c.pay_one.new.link)
    c.as_slice-payload-items.ensures (omega arith) c.payload-item.is c.loop-payload.invariant.done c.in_err-pay_one.ensures.cut)

pub returns-in_err-pay_one-clause-calls : goal.returns-in_err-pay_one-clause-calls
returns-in_err-pay_one-clause-calls g c = ends_on _ _ _ c.loop-payload.invariant.calls (search rules)

pub loop-payload-preserved : goal.loop-payload-preserved
loop-payload-preserved g c =
    let sent = g.L.Link.sent in
    let inv = c.loop-payload.invariant in
    record {
      done = c.in_ok-pay_one.ensures.ok
          ∙ paid_more (said c.args.setting.now) c.args.turn c.args.now.moment.0 (said c.args.setting.now).payloads c.as_slice-payload-items.result.now c.loop-payload.payload-index c.payload-item.result
          (serving c.args.node.now (sent c.args.link.now)) (serving c.loop-payload.node (sent c.loop-payload.link)) c.as_slice-payload-items.ensures (omega arith) c.payload-item.is inv.done;
      timely = c.pay_one.ensures.timely;
      coming = c.pay_one.ensures.kept.0 ∙ inv.coming;
      port = c.pay_one.ensures.kept.1 ∙ inv.port;
      calls = granted_on _ _ _ inv.calls (c.in_ok-pay_one.ensures.calls.whole refl);
      faults = omega (arith, inv.faults, c.pay_one.ensures.faults.no_fewer);
    }
