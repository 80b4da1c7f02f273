use Rattle.mip_rules_mobile.proofs.Shielding.{past-home, call-shielded}
use Rattle.mip_rules_mobile.proofs.laws.shields_are_from_its_home.Goals as goal

pub returns-clause-home : goal.returns-clause-home
returns-clause-home c = λ home declared numbers secrets past. past-home home declared numbers secrets past

pub returns-clause-sent : goal.returns-clause-sent
returns-clause-sent c = λ k now call. call-shielded k now call
