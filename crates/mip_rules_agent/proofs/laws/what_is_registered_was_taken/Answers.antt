use Rattle.mip_rules_agent.proofs.Refusals.{some-update}
use Rattle.mip_rules_agent.proofs.HomeLaws.{tick-quiet, plan-quiet, hear-quiet}
use Rattle.mip_rules_agent.proofs.laws.what_is_registered_was_taken.Goals as goal

pub returns-clause-taken : goal.returns-clause-taken
returns-clause-taken c = λ me k now number shield bytes claim some. some-update me k now number shield bytes claim some

pub returns-clause-ticked : goal.returns-clause-ticked
returns-clause-ticked c = λ me k now. tick-quiet me k now

pub returns-clause-planned : goal.returns-clause-planned
returns-clause-planned c = λ me k now valid preferred. plan-quiet me k now valid preferred

pub returns-clause-heard : goal.returns-clause-heard
returns-clause-heard c = λ me k now agent preference life. hear-quiet me k now agent preference life
