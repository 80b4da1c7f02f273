use Rattle.mip_packets.proofs.Sayings.{carried_lowered}
use Rattle.mip_packets.proofs.laws.lowering_keeps_what_is_said.Goals as goal

pub returns : goal.returns
returns c = carried_lowered
