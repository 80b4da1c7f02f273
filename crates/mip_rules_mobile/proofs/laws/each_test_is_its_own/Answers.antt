use Rattle.mip_rules_mobile.proofs.Says.{call-says}
use Rattle.mip_rules_mobile.proofs.laws.each_test_is_its_own.Goals as goal

pub returns : goal.returns
returns c = λ k now call can. call-says k now call can
