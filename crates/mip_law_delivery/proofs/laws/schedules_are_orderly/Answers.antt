use Rattle.mip_law_delivery.proofs.Ordering.{orderly_of}
use Rattle.mip_law_delivery.proofs.laws.schedules_are_orderly.Goals as goal

pub returns : goal.returns
returns c = orderly_of
