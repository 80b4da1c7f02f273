use Rattle.mip_history.proofs.Registrations.{permitted_registration}
use Rattle.mip_history.proofs.laws.registrations_have_their_update.Goals as goal

pub returns : goal.returns
returns c = permitted_registration
