use Rattle.mip_rules_correspondent.proofs.MeaningLaws.{after_ahead}
use Rattle.mip_rules_correspondent.proofs.meanings.after_is_ahead.Goals as goal

pub returns : goal.returns
returns c = λ last new low high. after_ahead last new low high
