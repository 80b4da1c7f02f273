use Rattle.std.proofs.Common.{◌≡◌, take, map}
use Rattle.std.specs.List.{filter}
use Rattle.mip_discovery.specs.declared.agent.Agent.{Agent}
use Rattle.mip_discovery.specs.Reply.{is_behind}
use Rattle.mip_afresh_agent.proofs.discovery.behind.Given as goal

abbrev pub invariant-loop-agent : goal.invariant-loop-agent
invariant-loop-agent l = l.addresses.items ≡ map (λ (x : Agent). x.address) (filter (is_behind l.own l.preference) (take l.agent-index l.agents))
