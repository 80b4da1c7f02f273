use Rattle.std.proofs.Common.{◌≡◌, ◌≤◌, take, length, fold}
use Rattle.mip_outside.specs.LinkCalls.{Granted}
use Rattle.mip_node.specs.Nodes.{serving, answered_one}
use Rattle.mip_node.specs.Settings.{said}
use Rattle.mip_node.proofs.sending.answer_all.Given as goal

abbrev pub invariant-loop-answer : goal.invariant-loop-answer
invariant-loop-answer g l = record {
  first : take (length l.yielded) l.fn.answers ≡ l.yielded;
  done : serving l.node (g.L.Link.sent l.link) ≡ fold (answered_one (said l.setting)) (serving l.fn.node (g.L.Link.sent l.fn.link)) l.yielded;
  role : l.node.role ≡ l.fn.node.role;
  coming : g.L.Link.coming l.link ≡ g.L.Link.coming l.fn.link;
  port : g.L.Link.port l.link ≡ g.L.Link.port l.fn.link;
  calls : Granted (g.L.Link.calls l.fn.link) (g.L.Link.calls l.link);
  faults : g.L.Link.faults l.fn.link ≤ g.L.Link.faults l.link;
}
