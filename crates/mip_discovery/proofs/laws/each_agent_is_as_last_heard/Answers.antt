use Rattle.mip_discovery.proofs.ExactLaws.{each_as_last_heard}
use Rattle.mip_discovery.proofs.laws.each_agent_is_as_last_heard.Goals as goal

pub returns : goal.returns
returns c = each_as_last_heard
