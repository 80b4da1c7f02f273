use Rattle.mip_rules_agent.proofs.Rights.{call-rightly}
use Rattle.mip_rules_agent.proofs.laws.each_packet_goes_by_right.Goals as goal

pub returns : goal.returns
returns c = λ me k now number shield bytes claim. call-rightly me k now number shield bytes claim
