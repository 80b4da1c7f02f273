use Rattle.mip_history.proofs.Registrations.{permitted_registered}
use Rattle.mip_history.proofs.laws.registered_was_sent.Goals as goal

pub returns : goal.returns
returns c = permitted_registered
