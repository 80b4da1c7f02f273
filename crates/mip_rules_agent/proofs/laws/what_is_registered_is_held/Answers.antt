use Rattle.mip_rules_agent.proofs.Placed.{call-held}
use Rattle.mip_rules_agent.proofs.laws.what_is_registered_is_held.Goals as goal

pub returns : goal.returns
returns c = λ me k now call. call-held me k now call
