use Rattle.mip_rules_correspondent.proofs.Answered.{take-held}
use Rattle.mip_rules_correspondent.proofs.laws.a_home_option_needs_its_binding.Goals as goal

pub returns : goal.returns
returns c = λ me k now number shield bytes p home read option none quiet. take-held me k now number shield bytes p home read option none quiet
