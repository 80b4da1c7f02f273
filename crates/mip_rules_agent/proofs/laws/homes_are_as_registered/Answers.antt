use Rattle.mip_rules_agent.proofs.Pasts.{known-served, known-binding, known-unserved, known-held}
use Rattle.mip_rules_agent.proofs.laws.homes_are_as_registered.Goals as goal

pub returns-clause-served : goal.returns-clause-served
returns-clause-served c = λ serves past home. known-served home serves past

pub returns-clause-binding : goal.returns-clause-binding
returns-clause-binding c = λ serves past home served. known-binding home serves past served

pub returns-clause-other : goal.returns-clause-other
returns-clause-other c = λ serves past home other. known-unserved home serves past other

pub returns-clause-held : goal.returns-clause-held
returns-clause-held c = λ serves past home served. known-held home serves past served
