use Rattle.mip_rules_mobile.proofs.Searching.{search-runs, search-none}
use Rattle.mip_rules_mobile.proofs.laws.a_discovery_runs_until_it_is_over.Goals as goal

pub returns-clause-runs : goal.returns-clause-runs
returns-clause-runs c = λ home declared numbers secrets before at later calm. search-runs home declared numbers secrets before at later calm

pub returns-clause-none : goal.returns-clause-none
returns-clause-none c = λ home declared numbers secrets past calm. search-none home declared numbers secrets past calm
