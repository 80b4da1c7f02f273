use Rattle.mip_rules_agent.proofs.VerdictLaws.{behind_kept}
use Rattle.mip_rules_agent.proofs.laws.out_of_window_tells_the_kept.Goals as goal

pub returns : goal.returns
returns c = λ b shield claim r last is. behind_kept b shield claim r last is
