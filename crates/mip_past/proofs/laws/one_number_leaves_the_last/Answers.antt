use Rattle.mip_past.proofs.OneNumber.{held-last, floor-last}
use Rattle.mip_past.proofs.laws.one_number_leaves_the_last.Goals as goal

pub returns : goal.returns
returns c = λ home now. record { careof = λ xs are. held-last xs home now are; sequence = λ xs are. floor-last xs home now are }
