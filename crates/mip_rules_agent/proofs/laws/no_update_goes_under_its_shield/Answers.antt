use Rattle.mip_rules_agent.proofs.Shielding.{call-none}
use Rattle.mip_rules_agent.proofs.laws.no_update_goes_under_its_shield.Goals as goal

pub returns : goal.returns
returns c = λ me k now call. call-none me k now call
