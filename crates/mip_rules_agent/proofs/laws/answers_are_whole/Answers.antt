use Rattle.mip_rules_agent.proofs.Answers.{call-whole}
use Rattle.mip_rules_agent.proofs.laws.answers_are_whole.Goals as goal

pub returns : goal.returns
returns c = λ me k now call. call-whole me k now call
