use Rattle.mip_rules_agent.proofs.Sayings.{call-says}
use Rattle.mip_rules_agent.proofs.laws.each_test_was_handed_over.Goals as goal

pub returns : goal.returns
returns c = λ me k now call. call-says me k now call
