use Rattle.mip_rules_agent.proofs.Pasts.{known-plan}
use Rattle.mip_rules_agent.proofs.laws.plan_is_the_last.Goals as goal

pub returns : goal.returns
returns c = λ serves past. known-plan serves past
