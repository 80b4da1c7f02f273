use Rattle.mip_history.proofs.Histories.{permitted_at, permitted_waited}
use Rattle.mip_history.proofs.laws.moments_rise.Goals as goal

pub returns : goal.returns
returns c = record { at = permitted_at; waited = permitted_waited }
