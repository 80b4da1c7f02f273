use Rattle.mip_rules_agent.proofs.VerdictLaws.{sound}
use Rattle.mip_rules_agent.proofs.laws.accepted_is_sound.Goals as goal

pub returns : goal.returns
returns c = λ b shield claim r home careof sequence granted is. sound b shield claim r home careof sequence granted is
