use Rattle.mip_law_delivery.proofs.Passing.{data_passed}
use Rattle.mip_law_delivery.proofs.laws.data_passes.Goals as goal

pub returns : goal.returns
returns c = data_passed
