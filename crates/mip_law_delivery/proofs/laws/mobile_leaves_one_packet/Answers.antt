use Rattle.mip_law_delivery.proofs.Leaving.{mobile_leaves}
use Rattle.mip_law_delivery.proofs.laws.mobile_leaves_one_packet.Goals as goal

pub returns : goal.returns
returns c = mobile_leaves
