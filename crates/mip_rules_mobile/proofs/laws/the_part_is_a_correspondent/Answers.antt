use Rattle.mip_rules_mobile.proofs.PartLives.{part_is}
use Rattle.mip_rules_mobile.proofs.laws.the_part_is_a_correspondent.Goals as goal

pub returns : goal.returns
returns c = λ home declared numbers secrets past. part_is home declared numbers secrets past
