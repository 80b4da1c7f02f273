use Rattle.mip_rules_mobile.proofs.Leaving.{born, restarted}
use Rattle.mip_rules_mobile.proofs.laws.cookies_begin_at_zero.Goals as goal

pub returns-clause-born : goal.returns-clause-born
returns-clause-born c = λ home declared numbers secrets. born home declared numbers secrets

pub returns-clause-restarted : goal.returns-clause-restarted
returns-clause-restarted c = λ k now secrets. restarted k now secrets
