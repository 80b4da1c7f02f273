use Rattle.mip_rules_mobile.proofs.Resting.{call-peers, call-led}
use Rattle.mip_rules_mobile.proofs.laws.bindings_are_acknowledged.Goals as goal

pub returns-clause-acknowledged : goal.returns-clause-acknowledged
returns-clause-acknowledged c = λ k now call. call-peers k now call

pub returns-clause-bound : goal.returns-clause-bound
returns-clause-bound c = λ k now call. call-led k now call
