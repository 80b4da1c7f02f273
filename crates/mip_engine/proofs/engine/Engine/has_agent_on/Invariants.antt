use Rattle.std.proofs.Common.{◌≡◌, false, option_map, take}
use Rattle.std.specs.List.{list_any}
use Rattle.mip_history.specs.Permitted.{is_agent_on}
use Rattle.mip_engine.specs.Joining.{hosts_of}
use Rattle.mip_engine.proofs.engine.Engine.has_agent_on.Given as goal

abbrev pub invariant-loop-node : goal.invariant-loop-node
invariant-loop-node l = list_any (is_agent_on l.self.net.links (option_map (λ x. x.0) l.link)) (hosts_of (take l.node-index l.node-items)) ≡ false
