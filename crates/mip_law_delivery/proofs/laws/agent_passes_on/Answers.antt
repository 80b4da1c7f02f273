use Rattle.mip_law_delivery.proofs.Passing.{passed}
use Rattle.mip_law_delivery.proofs.laws.agent_passes_on.Goals as goal

pub returns : goal.returns
returns c = passed
