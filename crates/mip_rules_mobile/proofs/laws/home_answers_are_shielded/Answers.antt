use Rattle.mip_rules_mobile.proofs.Resting.{call-agents}
use Rattle.mip_rules_mobile.proofs.laws.home_answers_are_shielded.Goals as goal

pub returns : goal.returns
returns c = λ k now call. call-agents k now call
