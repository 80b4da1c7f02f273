use Rattle.mip_settled.proofs.AsTold.{found_as_told}
use Rattle.mip_settled.proofs.laws.found_as_told.Goals as goal

pub returns : goal.returns
returns c = found_as_told
