use Rattle.mip_rules_mobile.proofs.Sources.{past-elsewhere, call-leaves}
use Rattle.mip_rules_mobile.proofs.laws.packets_leave_from_where_it_stands.Goals as goal

pub returns-clause-elsewhere : goal.returns-clause-elsewhere
returns-clause-elsewhere c = λ home declared numbers secrets past. past-elsewhere home declared numbers secrets past

pub returns-clause-leaves : goal.returns-clause-leaves
returns-clause-leaves c = λ k now call is. call-leaves k now call is
