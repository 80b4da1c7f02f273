use Rattle.mip_rules_agent.proofs.Answered.{call-unrouted}
use Rattle.mip_rules_agent.proofs.laws.routing_headers_are_refused.Goals as goal

pub returns : goal.returns
returns c = λ me k now number shield bytes claim p read free routed. call-unrouted me k now number shield bytes claim p read free routed
