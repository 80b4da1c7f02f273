use Rattle.mip_rules_mobile.proofs.Calls.{stands-known}
use Rattle.mip_rules_mobile.proofs.laws.stands_for_what_is_known.Goals as goal

pub returns : goal.returns
returns c = λ home declared numbers secrets past k stands. stands-known home declared numbers secrets past k stands
