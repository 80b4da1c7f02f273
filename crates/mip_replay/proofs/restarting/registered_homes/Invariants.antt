use Rattle.std.specs.Prelude.{◌≡◌, take, Some, slice_get}
use Rattle.mip_engine.specs.Nodes.{NodeSeen}
use Rattle.mip_engine.specs.Roles.{homes_of}
use Rattle.mip_replay.proofs.restarting.registered_homes.Given as goal

abbrev pub invariant-loop-place : goal.invariant-loop-place
invariant-loop-place l = (c : NodeSeen) → slice_get l.engine.nodes l.node.0 ≡ Some c → l.homes.items ≡ take l.place (homes_of c.role l.engine.moment)
