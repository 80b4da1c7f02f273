use Rattle.mip_law_origin.proofs.Histories.{own_permitted}
use Rattle.mip_law_origin.proofs.laws.entries_are_own.Goals as goal

pub returns : goal.returns
returns c = λ content plain. own_permitted content plain
