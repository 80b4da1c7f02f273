use Rattle.std.specs.Prelude.{◌≡◌, take, Some, slice_get}
use Rattle.mip_roles.specs.Nodes.{NodeSeen}
use Rattle.mip_roles.specs.Roles.{rows_of}
use Rattle.mip_engine.specs.Engines.{with_entries}
use Rattle.mip_engine.proofs.engine.Engine.show_rows.Given as goal

abbrev pub invariant-loop-place : goal.invariant-loop-place
invariant-loop-place l = record {
  shown : (c : NodeSeen) → slice_get l.fn.self.nodes l.node.0 ≡ Some c
      → l.self ≡ with_entries (take l.place (rows_of l.node.0 c.role l.fn.self.moment)) l.fn.self;
  kept : l.self.told ≡ l.fn.self.told;
}
