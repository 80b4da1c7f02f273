use Rattle.mip_law_claims.proofs.MobileRuns.{searches_of_run}
use Rattle.mip_law_claims.proofs.laws.mobiles_claim_as_told.Goals as goal

pub returns : goal.returns
returns c = λ s events n own agent host node. searches_of_run s n own agent host node events
