use Rattle.mip_law_delivery.proofs.Passing.{caught}
use Rattle.mip_law_delivery.proofs.laws.agent_catches.Goals as goal

pub returns : goal.returns
returns c = caught
