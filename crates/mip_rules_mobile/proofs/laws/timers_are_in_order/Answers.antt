use Rattle.mip_rules_mobile.proofs.Timers.{timers-order}
use Rattle.mip_rules_mobile.proofs.laws.timers_are_in_order.Goals as goal

pub returns : goal.returns
returns c = λ home declared numbers secrets past. timers-order home declared numbers secrets past
