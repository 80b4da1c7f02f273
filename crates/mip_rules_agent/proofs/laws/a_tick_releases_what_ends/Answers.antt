use Rattle.mip_rules_agent.proofs.Ticking.{tick-releases, tick-leaves}
use Rattle.mip_rules_agent.proofs.laws.a_tick_releases_what_ends.Goals as goal

pub returns-clause-released : goal.returns-clause-released
returns-clause-released c = λ me k now. tick-releases me k now

pub returns-clause-left : goal.returns-clause-left
returns-clause-left c = λ me k now. tick-leaves me k now
