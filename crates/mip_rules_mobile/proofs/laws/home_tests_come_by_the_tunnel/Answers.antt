use Rattle.mip_rules_mobile.proofs.Resting.{call-tests}
use Rattle.mip_rules_mobile.proofs.laws.home_tests_come_by_the_tunnel.Goals as goal

pub returns : goal.returns
returns c = λ k now call. call-tests k now call
