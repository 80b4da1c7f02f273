use Rattle.mip_rules_agent.proofs.Refusals.{call-agents, call-plan, quiet-homes, quiet-claims, refused-keeps}
use Rattle.mip_rules_agent.proofs.laws.refused_changes_nothing.Goals as goal

pub returns-clause-homes : goal.returns-clause-homes
returns-clause-homes c = λ me k now number shield bytes claim none. quiet-homes me k now number shield bytes claim none

pub returns-clause-claims : goal.returns-clause-claims
returns-clause-claims c = λ me k now number shield bytes claim none. quiet-claims me k now number shield bytes claim none

pub returns-clause-refused : goal.returns-clause-refused
returns-clause-refused c = λ me k now number shield bytes claim some. refused-keeps me k now number shield bytes claim some

pub returns-clause-agents : goal.returns-clause-agents
returns-clause-agents c = λ me k now call. call-agents me k now call

pub returns-clause-plan : goal.returns-clause-plan
returns-clause-plan c = λ me k now call. call-plan me k now call
