use Rattle.mip_law_claims.proofs.AgentRuns.{told_of_run}
use Rattle.mip_law_claims.proofs.laws.agents_claim_as_told.Goals as goal

pub returns : goal.returns
returns c = λ s events n own preference life room serves host node. told_of_run s n own preference life room serves host node events
