use Rattle.mip_rules_agent.proofs.Pasts.{known-last}
use Rattle.mip_rules_agent.proofs.laws.last_is_of_the_last_call.Goals as goal

pub returns : goal.returns
returns c = λ serves past. known-last serves past
