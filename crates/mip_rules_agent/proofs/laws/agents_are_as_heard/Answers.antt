use Rattle.mip_rules_agent.proofs.Pasts.{known-agents}
use Rattle.mip_rules_agent.proofs.laws.agents_are_as_heard.Goals as goal

pub returns : goal.returns
returns c = λ serves past. known-agents serves past
