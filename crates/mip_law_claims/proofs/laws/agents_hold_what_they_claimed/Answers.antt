use Rattle.mip_law_claims.proofs.AgentRuns.{held_of_run}
use Rattle.mip_law_claims.proofs.laws.agents_hold_what_they_claimed.Goals as goal

pub returns : goal.returns
returns c = λ s events n own preference life room serves host node home. held_of_run s n own preference life room serves host node events home
