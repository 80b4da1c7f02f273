use Rattle.mip_law_delivery.proofs.Taking.{taken_tunnelled}
use Rattle.mip_law_delivery.proofs.laws.mobile_takes_tunnelled.Goals as goal

pub returns : goal.returns
returns c = taken_tunnelled
