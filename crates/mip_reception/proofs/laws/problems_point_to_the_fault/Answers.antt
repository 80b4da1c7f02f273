use Rattle.mip_reception.proofs.Pointers.{points}
use Rattle.mip_reception.proofs.laws.problems_point_to_the_fault.Goals as goal

pub returns : goal.returns
returns c = points
