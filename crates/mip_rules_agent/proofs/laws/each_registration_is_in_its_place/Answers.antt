use Rattle.mip_rules_agent.proofs.Placed.{call-place}
use Rattle.mip_rules_agent.proofs.laws.each_registration_is_in_its_place.Goals as goal

pub returns : goal.returns
returns c = λ me k now call. call-place me k now call
