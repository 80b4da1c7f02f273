use Rattle.mip_rules_agent.proofs.Moments.{call-last}
use Rattle.mip_rules_agent.proofs.laws.each_call_is_the_last.Goals as goal

pub returns : goal.returns
returns c = λ me k now call. call-last me k now call
