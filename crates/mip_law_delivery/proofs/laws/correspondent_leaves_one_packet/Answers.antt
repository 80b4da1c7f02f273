use Rattle.mip_law_delivery.proofs.Leaving.{correspondent_leaves}
use Rattle.mip_law_delivery.proofs.laws.correspondent_leaves_one_packet.Goals as goal

pub returns : goal.returns
returns c = correspondent_leaves
