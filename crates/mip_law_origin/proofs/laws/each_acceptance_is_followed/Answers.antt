use Rattle.mip_law_origin.proofs.Histories.{followed_permitted}
use Rattle.mip_law_origin.proofs.laws.each_acceptance_is_followed.Goals as goal

pub returns : goal.returns
returns c = λ content. followed_permitted content
