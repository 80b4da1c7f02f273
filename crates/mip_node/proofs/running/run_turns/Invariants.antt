use Rattle.std.proofs.Common.{◌≡◌, ◌≤◌}
use Rattle.mip_outside.specs.LinkCalls.{Granted}
use Rattle.mip_node.specs.Roles.{IsBy}
use Rattle.mip_node.specs.Runs.{HasRun, start}
use Rattle.mip_node.specs.RunsLaws.{stand}
use Rattle.mip_node.specs.Settings.{said}
use Rattle.mip_node.proofs.running.run_turns.Given as goal

abbrev pub invariant-loop-done : goal.invariant-loop-done
invariant-loop-done g l = record {
  ran : HasRun (start (said l.setting) (g.C.Clock.ahead l.fn.clock) (g.L.Link.coming l.fn.link) (g.L.Link.sent l.fn.link) (g.K.Sink.held l.fn.sink)) l.done
      (stand (g.C.Clock.ahead l.clock) (g.L.Link.coming l.link) l.node (g.L.Link.sent l.link) (g.K.Sink.held l.sink));
  timely : IsBy l.node.role (g.C.Clock.last l.clock);
  port : g.L.Link.port l.link ≡ g.L.Link.port l.fn.link;
  calls : Granted (g.L.Link.calls l.fn.link) (g.L.Link.calls l.link);
  link_faults : g.L.Link.faults l.fn.link ≤ g.L.Link.faults l.link;
  sink_faults : g.K.Sink.faults l.fn.sink ≤ g.K.Sink.faults l.sink;
}
