use Rattle.mip_rules_agent.proofs.RowLaws.{judges}
use Rattle.mip_rules_agent.proofs.laws.verdicts_in_order.Goals as goal

pub returns : goal.returns
returns c = λ b shield claim r. judges b shield claim r
