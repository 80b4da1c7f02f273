use Rattle.std.proofs.Common.{◌≡◌, ◌≤◌, replicate}
use Rattle.mip_hub.specs.Calls.{Sends, link_state, made_on}
use Rattle.mip_hub.proofs.sending.send_copies.Given as goal

abbrev pub invariant-loop-sent : goal.invariant-loop-sent
invariant-loop-sent g l = record {
  made : link_state (g.L.Link.sent l.link) (g.L.Link.calls l.link)
      ≡ made_on (replicate l._sent (Sends l.port l.datagram)) (link_state (g.L.Link.sent l.initial.link) (g.L.Link.calls l.initial.link));
  coming : g.L.Link.coming l.link ≡ g.L.Link.coming l.initial.link;
  port : g.L.Link.port l.link ≡ g.L.Link.port l.initial.link;
  faults : g.L.Link.faults l.initial.link ≤ g.L.Link.faults l.link;
}
