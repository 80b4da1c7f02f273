use Rattle.mip_rules_correspondent.proofs.Pasts.{stands-known}
use Rattle.mip_rules_correspondent.proofs.laws.stands_for_what_is_known.Goals as goal

pub returns : goal.returns
returns c = λ room numbers past k stands. stands-known room numbers past k stands
