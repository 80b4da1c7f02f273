use Rattle.mip_settled.proofs.AsTold.{registered_as_told}
use Rattle.mip_settled.proofs.laws.registered_as_told.Goals as goal

pub returns : goal.returns
returns c = registered_as_told
