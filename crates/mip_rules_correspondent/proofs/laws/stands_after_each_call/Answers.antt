use Rattle.mip_rules_correspondent.proofs.Calls.{call-stands}
use Rattle.mip_rules_correspondent.proofs.laws.stands_after_each_call.Goals as goal

pub returns : goal.returns
returns c = λ room numbers past k now me call stands. call-stands room numbers past k now me call stands
