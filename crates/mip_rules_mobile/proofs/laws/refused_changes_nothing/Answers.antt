use Rattle.mip_rules_mobile.proofs.Refusals.{refused-keeps}
use Rattle.mip_rules_mobile.proofs.laws.refused_changes_nothing.Goals as goal

pub returns : goal.returns
returns c = λ k now number shield packet some. refused-keeps k now number shield packet some
