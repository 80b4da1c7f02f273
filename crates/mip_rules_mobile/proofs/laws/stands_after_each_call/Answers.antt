use Rattle.mip_rules_mobile.proofs.Calls.{call-stands}
use Rattle.mip_rules_mobile.proofs.laws.stands_after_each_call.Goals as goal

pub returns : goal.returns
returns c = λ home declared numbers secrets past k now call stands. call-stands home declared numbers secrets past k now call stands
