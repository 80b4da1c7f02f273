use Rattle.mip_rules_mobile.proofs.Leaving.{detached, left}
use Rattle.mip_rules_mobile.proofs.laws.leaving_forgets.Goals as goal

pub returns-clause-step : goal.returns-clause-step
returns-clause-step c = λ k at. detached k at

pub returns-clause-call : goal.returns-clause-call
returns-clause-call c = λ k now of_home. left k now of_home
