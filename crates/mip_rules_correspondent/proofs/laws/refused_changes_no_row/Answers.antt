use Rattle.mip_rules_correspondent.proofs.Refusals.{keeps-call, refused-keeps}
use Rattle.mip_rules_correspondent.proofs.laws.refused_changes_no_row.Goals as goal

pub returns-clause-refused : goal.returns-clause-refused
returns-clause-refused c = λ me k now call over some. refused-keeps me k now call over some

pub returns-clause-silent : goal.returns-clause-silent
returns-clause-silent c = λ me call t other none. keeps-call me call t other none
