use Rattle.mip_law_delivery.proofs.Tunnelled.{each_reaches}
use Rattle.mip_law_delivery.proofs.laws.data_reaches_its_end.Goals as goal

pub returns : goal.returns
returns c = each_reaches
