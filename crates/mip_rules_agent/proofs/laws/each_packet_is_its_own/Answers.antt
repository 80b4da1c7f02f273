use Rattle.mip_rules_agent.proofs.Sendings.{call-own}
use Rattle.mip_rules_agent.proofs.laws.each_packet_is_its_own.Goals as goal

pub returns : goal.returns
returns c = λ me k now call. call-own me k now call
