use Rattle.std.proofs.Common.{◌≡◌, ◌≤◌, take}
use Rattle.std.specs.List.{fold, flat_map}
use Rattle.mip_hub.specs.Calls.{link_state, made_on}
use Rattle.mip_hub.specs.Turns.{step_in, calls_in}
use Rattle.mip_hub.proofs.doing.do_lines.Given as goal

abbrev pub invariant-loop-line : goal.invariant-loop-line
invariant-loop-line g l = record {
  hub : l.hub ≡ fold (step_in l.turn) l.initial.hub (take l.line-index l.lines);
  made : link_state (g.L.Link.sent l.link) (g.L.Link.calls l.link)
      ≡ made_on (flat_map (calls_in l.turn) (take l.line-index l.lines)) (link_state (g.L.Link.sent l.initial.link) (g.L.Link.calls l.initial.link));
  coming : g.L.Link.coming l.link ≡ g.L.Link.coming l.initial.link;
  port : g.L.Link.port l.link ≡ g.L.Link.port l.initial.link;
  faults : g.L.Link.faults l.initial.link ≤ g.L.Link.faults l.link;
}
