use Rattle.mip_rules_agent.proofs.Ended.{known-listed, known-kept}
use Rattle.mip_rules_agent.proofs.laws.ends_are_those_of_registrations.Goals as goal

pub returns-clause-listed : goal.returns-clause-listed
returns-clause-listed c = λ serves past. known-listed serves past

pub returns-clause-kept : goal.returns-clause-kept
returns-clause-kept c = λ serves past now home b until last stands. known-kept serves past now until home b last stands
