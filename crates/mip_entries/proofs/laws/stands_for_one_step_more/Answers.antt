use Rattle.mip_entries.proofs.TransitionLaws.{stands-noted}
use Rattle.mip_entries.proofs.laws.stands_for_one_step_more.Goals as goal

pub returns : goal.returns
returns g c = λ after fresh past step t stands. stands-noted after fresh past step t stands
