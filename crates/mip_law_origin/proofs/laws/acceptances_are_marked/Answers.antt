use Rattle.mip_law_origin.proofs.Marked.{permitted_marked}
use Rattle.mip_law_origin.proofs.laws.acceptances_are_marked.Goals as goal

pub returns : goal.returns
returns c = λ content plain short. permitted_marked content plain short
