use Rattle.mip_law_delivery.proofs.Loud.{loud_changes, loud_for_somebody}
use Rattle.mip_law_delivery.proofs.laws.only_changes_are_loud.Goals as goal

pub returns-clause-kinds : goal.returns-clause-kinds
returns-clause-kinds c = loud_changes

pub returns-clause-nobody : goal.returns-clause-nobody
returns-clause-nobody c = loud_for_somebody
