use Rattle.mip_rules_agent.proofs.Answered.{call-answered}
use Rattle.mip_rules_agent.proofs.laws.updates_are_answered_by_their_verdict.Goals as goal

pub returns : goal.returns
returns c = λ me k now number shield bytes claim p s a f l key t o read free passes. call-answered me k now number shield bytes claim p s a f l key t o read free passes
