use Rattle.mip_rules_correspondent.proofs.Pasts.{known-last}
use Rattle.mip_rules_correspondent.proofs.laws.last_is_of_the_last_call.Goals as goal

pub returns : goal.returns
returns c = λ room numbers past. known-last room numbers past
