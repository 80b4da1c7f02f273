use Rattle.mip_history.proofs.Histories.{permitted_held, permitted_under}
use Rattle.mip_history.proofs.laws.held_was_accepted.Goals as goal

pub returns : goal.returns
returns c = record { held = permitted_held; under = permitted_under }
