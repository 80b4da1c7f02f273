use Rattle.std.proofs.Common.{◌≡◌, drop}
use Rattle.std.specs.List.{list_any}
use Rattle.mip_discovery.specs.Heard.{is_again}
use Rattle.mip_afresh_agent.proofs.listing.is_known.Given as goal

abbrev pub invariant-loop-agent : goal.invariant-loop-agent
invariant-loop-agent l = list_any (is_again l.now.0 l.heard) (drop l.agent-index l.agents) ≡ list_any (is_again l.now.0 l.heard) l.agents
