use Rattle.mip_law_delivery.proofs.Delivering.{delivered_to}
use Rattle.mip_law_delivery.proofs.laws.holder_is_handed_the_packet.Goals as goal

pub returns : goal.returns
returns c = delivered_to
