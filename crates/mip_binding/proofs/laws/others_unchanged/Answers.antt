use Rattle.mip_binding.proofs.HeldLaws.{held-other, under-other, holds-other, floor-other}
use Rattle.mip_binding.proofs.laws.others_unchanged.Goals as goal

pub returns : goal.returns
returns c = record { held = held-other; under = under-other; holds = holds-other; floor = floor-other }
