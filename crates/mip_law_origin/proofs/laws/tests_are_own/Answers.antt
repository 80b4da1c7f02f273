use Rattle.mip_law_origin.proofs.Own.{call-own-tests}
use Rattle.mip_law_origin.proofs.laws.tests_are_own.Goals as goal

pub returns : goal.returns
returns c = λ me k now call plain. call-own-tests me k now call plain
