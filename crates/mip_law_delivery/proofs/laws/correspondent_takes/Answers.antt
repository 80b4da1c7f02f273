use Rattle.mip_law_delivery.proofs.Taking.{taken_by_correspondent}
use Rattle.mip_law_delivery.proofs.laws.correspondent_takes.Goals as goal

pub returns : goal.returns
returns c = taken_by_correspondent
