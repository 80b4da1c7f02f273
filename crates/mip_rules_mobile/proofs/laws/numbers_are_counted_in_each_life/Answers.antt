use Rattle.mip_rules_mobile.proofs.Counted.{discoveries-told, solicitations-told, cookies-told, places-told}
use Rattle.mip_rules_mobile.proofs.laws.numbers_are_counted_in_each_life.Goals as goal

pub returns-clause-discoveries : goal.returns-clause-discoveries
returns-clause-discoveries c = λ home declared numbers secrets past. discoveries-told home declared numbers secrets past

pub returns-clause-solicitations : goal.returns-clause-solicitations
returns-clause-solicitations c = λ home declared numbers secrets past. solicitations-told home declared numbers secrets past

pub returns-clause-cookies : goal.returns-clause-cookies
returns-clause-cookies c = λ home declared numbers secrets past. cookies-told home declared numbers secrets past

pub returns-clause-numbers : goal.returns-clause-numbers
returns-clause-numbers c = λ home declared numbers secrets past some. places-told home declared numbers secrets past some
