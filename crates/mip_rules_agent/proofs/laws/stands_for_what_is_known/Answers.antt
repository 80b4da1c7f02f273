use Rattle.mip_rules_agent.proofs.Pasts.{stands-known}
use Rattle.mip_rules_agent.proofs.laws.stands_for_what_is_known.Goals as goal

pub returns : goal.returns
returns c = λ serves past k stands. stands-known serves past k stands
