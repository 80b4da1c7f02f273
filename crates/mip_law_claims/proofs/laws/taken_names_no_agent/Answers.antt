use Rattle.mip_law_claims.proofs.Taken.{seeker_of_run, no_agent_seeks}
use Rattle.mip_law_claims.proofs.laws.taken_names_no_agent.Goals as goal

pub returns : goal.returns
returns c = record { seeker = seeker_of_run; agent = no_agent_seeks }
