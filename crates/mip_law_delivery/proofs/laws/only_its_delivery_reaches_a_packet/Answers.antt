use Rattle.mip_law_delivery.proofs.Reaching.{reached_by}
use Rattle.mip_law_delivery.proofs.laws.only_its_delivery_reaches_a_packet.Goals as goal

pub returns : goal.returns
returns c = reached_by
