use Rattle.mip_history.proofs.Receivers.{handed_right}
use Rattle.mip_history.proofs.laws.shields_name_who_is_handed.Goals as goal

pub returns : goal.returns
returns c = handed_right
