use Rattle.std.proofs.Common.{◌≡◌, ◌≤◌, take, fold}
use Rattle.mip_outside.specs.LinkCalls.{Granted}
use Rattle.mip_node.specs.Roles.{IsBy}
use Rattle.mip_node.specs.Nodes.{serving}
use Rattle.mip_node.specs.Settings.{said}
use Rattle.mip_node.specs.Turns.{paid_one}
use Rattle.mip_node.proofs.asking.pay.Given as goal

abbrev pub invariant-loop-payload : goal.invariant-loop-payload
invariant-loop-payload g l = record {
  done : serving l.node (g.L.Link.sent l.link)
      ≡ fold (paid_one (said l.setting) l.turn l.now.moment.0) (serving l.fn.node (g.L.Link.sent l.fn.link)) (take l.payload-index (said l.setting).payloads);
  timely : IsBy l.node.role l.now.moment.0;
  coming : g.L.Link.coming l.link ≡ g.L.Link.coming l.fn.link;
  port : g.L.Link.port l.link ≡ g.L.Link.port l.fn.link;
  calls : Granted (g.L.Link.calls l.fn.link) (g.L.Link.calls l.link);
  faults : g.L.Link.faults l.fn.link ≤ g.L.Link.faults l.link;
}
