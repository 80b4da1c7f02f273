use Rattle.mip_rules_agent.proofs.Granting.{accepted-bounded, granted-bounded}
use Rattle.mip_rules_agent.proofs.laws.granted_is_bounded.Goals as goal

pub returns-clause-verdict : goal.returns-clause-verdict
returns-clause-verdict c = λ b shield claim r home careof sequence granted is. accepted-bounded b shield claim r home careof sequence granted is

pub returns-clause-transition : goal.returns-clause-transition
returns-clause-transition c = λ me k now number shield bytes claim some. granted-bounded me k now number shield bytes claim some
