use Rattle.mip_law_delivery.proofs.Straightly.{each_straight}
use Rattle.mip_law_delivery.proofs.laws.data_without_a_tunnel_reaches_its_end.Goals as goal

pub returns : goal.returns
returns c = each_straight
