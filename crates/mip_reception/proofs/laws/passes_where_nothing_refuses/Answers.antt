use Rattle.mip_reception.proofs.Passings.{passes}
use Rattle.mip_reception.proofs.laws.passes_where_nothing_refuses.Goals as goal

pub returns : goal.returns
returns c = passes
