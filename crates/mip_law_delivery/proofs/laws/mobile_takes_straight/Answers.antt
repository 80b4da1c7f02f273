use Rattle.mip_law_delivery.proofs.Taking.{taken_straight}
use Rattle.mip_law_delivery.proofs.laws.mobile_takes_straight.Goals as goal

pub returns : goal.returns
returns c = taken_straight
