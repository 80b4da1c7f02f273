use Rattle.mip_law_security.proofs.Acceptances.{event_of_agent}
use Rattle.mip_law_security.proofs.laws.tunnelled_updates_come_from_the_agent.Goals as goal

pub returns : goal.returns
returns c = λ s run event single n own agent host k post posted outer read tunnel told. event_of_agent s n k own agent host run post posted outer read tunnel event single told
