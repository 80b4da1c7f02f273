use Rattle.mip_history.proofs.Histories.{permitted_lives}
use Rattle.mip_history.proofs.laws.lives_are_restarts.Goals as goal

pub returns : goal.returns
returns c = permitted_lives
