use Rattle.mip_law_delivery.proofs.OneDelivery.{quiet_delivery}
use Rattle.mip_law_delivery.proofs.laws.a_delivery_can_be_quiet.Goals as goal

pub returns : goal.returns
returns c = quiet_delivery
