use Rattle.std.proofs.Common.{take}
use Rattle.mip_past.proofs.PlansKept.{planned_as_told}
use Rattle.mip_past.proofs.laws.plans_are_as_asked.Goals as goal

pub returns : goal.returns
returns c = λ s events k small n own preference life room serves is. planned_as_told s n own preference life room serves is (take k events) small
