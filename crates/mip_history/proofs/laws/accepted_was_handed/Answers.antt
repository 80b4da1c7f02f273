use Rattle.mip_history.proofs.Histories.{permitted_accepted}
use Rattle.mip_history.proofs.laws.accepted_was_handed.Goals as goal

pub returns : goal.returns
returns c = permitted_accepted
