use Rattle.std.proofs.Common.{◌≡◌, take, map}
use Rattle.mip_discovery.specs.Heard.{renewed}
use Rattle.mip_afresh_agent.proofs.listing.renew.Given as goal

abbrev pub invariant-loop-agent : goal.invariant-loop-agent
invariant-loop-agent l = l.list.items ≡ map (renewed l.now.0 l.heard) (take l.agent-index l.agents)
