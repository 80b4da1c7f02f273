use Rattle.mip_reception.proofs.Passings.{refuses}
use Rattle.mip_reception.proofs.laws.refusals_in_order.Goals as goal

pub returns : goal.returns
returns c = refuses
