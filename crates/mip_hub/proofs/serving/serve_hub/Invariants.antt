use Rattle.std.proofs.Common.{◌≡◌, ◌≤◌}
use Rattle.std.specs.Prelude.{Some}
use Rattle.std.specs.Option.{option_map}
use Rattle.mip_hub.specs.Calls.{link_state}
use Rattle.mip_hub.specs.HubConfigs.{content}
use Rattle.mip_hub.specs.Served.{outside}
use Rattle.mip_hub.proofs.RunLaws.{Reached}
use Rattle.mip_hub.proofs.serving.serve_hub.Given as goal

abbrev pub invariant-loop-before : goal.invariant-loop-before
invariant-loop-before g l = record {
  reached : Reached (content l.config) l.before l.hub (g.L.Link.coming l.fn.link) (g.L.Link.coming l.link)
      (outside (link_state (g.L.Link.sent l.fn.link) (g.L.Link.calls l.fn.link)) (g.K.Sink.held l.fn.sink)) (outside (link_state (g.L.Link.sent l.link) (g.L.Link.calls l.link)) (g.K.Sink.held l.sink));
  port : g.L.Link.port l.link ≡ option_map (λ _. Some l.config.port) (g.L.Link.port l.fn.link);
  link_faults : g.L.Link.faults l.fn.link ≤ g.L.Link.faults l.link;
  sink_faults : g.K.Sink.faults l.fn.sink ≤ g.K.Sink.faults l.sink;
}
