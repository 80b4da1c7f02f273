use Rattle.mip_rules_agent.proofs.Pasts.{known-ends}
use Rattle.mip_rules_agent.proofs.laws.ends_are_in_order.Goals as goal

pub returns : goal.returns
returns c = λ serves past. known-ends serves past
