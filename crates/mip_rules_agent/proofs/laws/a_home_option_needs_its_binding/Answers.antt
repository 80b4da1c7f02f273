use Rattle.mip_rules_agent.proofs.Answered.{call-bound}
use Rattle.mip_rules_agent.proofs.laws.a_home_option_needs_its_binding.Goals as goal

pub returns : goal.returns
returns c = λ me k now number shield bytes claim p home read free option none quiet. call-bound me k now number shield bytes claim p home read free option none quiet
