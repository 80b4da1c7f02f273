use Rattle.mip_law_delivery.proofs.Growing.{post_stays}
use Rattle.mip_law_delivery.proofs.laws.packets_stay_as_posted.Goals as goal

pub returns : goal.returns
returns c = post_stays
