use Rattle.mip_rules_agent.proofs.Calls.{call-stands}
use Rattle.mip_rules_agent.proofs.laws.stands_after_each_call.Goals as goal

pub returns : goal.returns
returns c = λ serves past k now me call stands. call-stands serves past k now me call stands
