use Rattle.mip_history.proofs.Histories.{permitted_heard_bare}
use Rattle.mip_history.proofs.laws.outsiders_hear_no_shielded_packet.Goals as goal

pub returns : goal.returns
returns c = permitted_heard_bare
