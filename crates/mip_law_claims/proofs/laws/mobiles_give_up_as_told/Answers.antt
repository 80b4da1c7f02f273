use Rattle.mip_law_claims.proofs.ReleasingRuns.{releases_of_run}
use Rattle.mip_law_claims.proofs.laws.mobiles_give_up_as_told.Goals as goal

pub returns : goal.returns
returns c = λ s events n own agent host node. releases_of_run s n own agent host node events
