use Rattle.mip_rules_mobile.proofs.Calls.{call-last}
use Rattle.mip_rules_mobile.proofs.laws.each_call_is_the_last.Goals as goal

pub returns : goal.returns
returns c = λ k now call. call-last k now call
