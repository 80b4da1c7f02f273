use Rattle.mip_rules_mobile.proofs.PartTransitions.{call-part, restart-part}
use Rattle.mip_rules_mobile.proofs.laws.each_call_is_one_of_the_part_at_most.Goals as goal

pub returns-clause-called : goal.returns-clause-called
returns-clause-called c = λ k now call other. call-part k now call other

pub returns-clause-reborn : goal.returns-clause-reborn
returns-clause-reborn c = λ k now secrets. restart-part k now secrets
