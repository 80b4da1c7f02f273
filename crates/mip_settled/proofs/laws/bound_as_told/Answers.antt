use Rattle.mip_settled.proofs.AsTold.{bound_as_told}
use Rattle.mip_settled.proofs.laws.bound_as_told.Goals as goal

pub returns : goal.returns
returns c = λ s events n own agent peer now host late. bound_as_told s events n own agent host peer now late
