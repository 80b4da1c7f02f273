use Rattle.mip_rules_mobile.proofs.Wording.{wait-told, touched-told, bound-told, resend-told}
use Rattle.mip_rules_mobile.proofs.laws.each_row_is_the_last_told.Goals as goal

pub returns-clause-touched : goal.returns-clause-touched
returns-clause-touched c = λ home declared numbers secrets past row inside. touched-told home declared numbers secrets past row inside

pub returns-clause-bound : goal.returns-clause-bound
returns-clause-bound c = λ home declared numbers secrets past row inside. bound-told home declared numbers secrets past row inside

pub returns-clause-resends : goal.returns-clause-resends
returns-clause-resends c = λ home declared numbers secrets past row inside. resend-told home declared numbers secrets past row inside

pub returns-clause-wait : goal.returns-clause-wait
returns-clause-wait c = λ home declared numbers secrets past. wait-told home declared numbers secrets past
