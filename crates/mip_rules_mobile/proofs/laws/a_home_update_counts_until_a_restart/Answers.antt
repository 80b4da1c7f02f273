use Rattle.mip_rules_mobile.proofs.Sent.{registered-counts, deregistered-counts, restarted-forgets, born-without}
use Rattle.mip_rules_mobile.proofs.laws.a_home_update_counts_until_a_restart.Goals as goal

pub returns-clause-registers : goal.returns-clause-registers
returns-clause-registers c = λ home declared numbers secrets before at later silent own careof agent sequence. registered-counts home declared numbers secrets before at later silent own careof agent sequence

pub returns-clause-deregisters : goal.returns-clause-deregisters
returns-clause-deregisters c = λ home declared numbers secrets before at later silent own agent sequence. deregistered-counts home declared numbers secrets before at later silent own agent sequence

pub returns-clause-restarts : goal.returns-clause-restarts
returns-clause-restarts c = λ home declared numbers secrets before at later silent next. restarted-forgets home declared numbers secrets before at later silent next

pub returns-clause-none : goal.returns-clause-none
returns-clause-none c = λ home declared numbers secrets past silent. born-without home declared numbers secrets past silent
