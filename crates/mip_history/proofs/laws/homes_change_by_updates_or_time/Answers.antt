use Rattle.mip_history.proofs.Registrations.{permitted_change}
use Rattle.mip_history.proofs.laws.homes_change_by_updates_or_time.Goals as goal

pub returns : goal.returns
returns c = permitted_change
