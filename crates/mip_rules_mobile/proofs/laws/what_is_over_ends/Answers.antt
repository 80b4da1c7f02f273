use Rattle.mip_rules_mobile.proofs.Ending.{timed-born, timed-kept, tick-ends}
use Rattle.mip_rules_mobile.proofs.laws.what_is_over_ends.Goals as goal

pub returns-clause-born : goal.returns-clause-born
returns-clause-born c = λ home declared numbers secrets. timed-born home declared numbers secrets

pub returns-clause-kept : goal.returns-clause-kept
returns-clause-kept c = λ k now call timed. timed-kept k now call timed

pub returns-clause-ends : goal.returns-clause-ends
returns-clause-ends c = λ k now order timed. tick-ends k now order timed
