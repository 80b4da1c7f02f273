use Rattle.mip_history.proofs.Histories.{permitted_claimed, permitted_released, permitted_taken}
use Rattle.mip_history.proofs.laws.addresses_have_one_holder.Goals as goal

pub returns : goal.returns
returns c = record { claimed = permitted_claimed; released = permitted_released; taken = permitted_taken }
