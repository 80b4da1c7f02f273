use Rattle.mip_law_delivery.proofs.Splitting.{split_run}
use Rattle.mip_law_delivery.proofs.laws.carrying_one_by_one_is_the_same.Goals as goal

pub returns : goal.returns
returns c = split_run
