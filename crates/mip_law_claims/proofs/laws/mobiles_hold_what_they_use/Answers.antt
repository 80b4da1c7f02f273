use Rattle.mip_law_claims.proofs.HoldingRuns.{held_of_run}
use Rattle.mip_law_claims.proofs.laws.mobiles_hold_what_they_use.Goals as goal

pub returns : goal.returns
returns c = λ s events n own agent host node. held_of_run s n own agent host node events
