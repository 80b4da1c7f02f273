use Rattle.mip_rules_agent.proofs.Rights.{keeps-shield}
use Rattle.mip_rules_agent.proofs.laws.what_is_intercepted_keeps_its_shield.Goals as goal

pub returns : goal.returns
returns c = λ me k now number shield bytes claim p careof read at. keeps-shield me k now number shield bytes claim p careof read at
