use Rattle.mip_rules_correspondent.proofs.Answered.{call-in_place}
use Rattle.mip_rules_correspondent.proofs.laws.each_acceptance_is_in_its_place.Goals as goal

pub returns : goal.returns
returns c = λ me k now call. call-in_place me k now call
