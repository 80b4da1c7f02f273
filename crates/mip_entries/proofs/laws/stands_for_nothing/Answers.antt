use Rattle.mip_entries.proofs.TransitionLaws.{stands-fresh}
use Rattle.mip_entries.proofs.laws.stands_for_nothing.Goals as goal

pub returns : goal.returns
returns g c = λ after fresh. stands-fresh after fresh
