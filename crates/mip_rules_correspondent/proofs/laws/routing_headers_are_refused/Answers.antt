use Rattle.mip_rules_correspondent.proofs.Answered.{take-unrouted}
use Rattle.mip_rules_correspondent.proofs.laws.routing_headers_are_refused.Goals as goal

pub returns : goal.returns
returns c = λ me k now number shield bytes p read routed. take-unrouted me k now number shield bytes p read routed
