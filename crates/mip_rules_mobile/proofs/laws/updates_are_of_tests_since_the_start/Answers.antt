use Rattle.mip_rules_mobile.proofs.Kept.{past-given, update-from}
use Rattle.mip_rules_mobile.proofs.laws.updates_are_of_tests_since_the_start.Goals as goal

pub returns-clause-trials : goal.returns-clause-trials
returns-clause-trials c = λ home declared numbers secrets past. past-given home declared numbers secrets past

pub returns-clause-updates : goal.returns-clause-updates
returns-clause-updates c = λ home declared numbers secrets past now row u is. update-from home declared numbers secrets past now row u is
