use Rattle.mip_rules_agent.proofs.HomeLaws.{careof-changes, careof-earlier}
use Rattle.mip_rules_agent.proofs.laws.registrations_change_by_updates_alone.Goals as goal

pub returns-clause-call : goal.returns-clause-call
returns-clause-call c = λ me k now home call later. careof-changes me k now home call later

pub returns-clause-time : goal.returns-clause-time
returns-clause-time c = λ k home careof earlier later before is. careof-earlier k home careof earlier later before is
