use Rattle.mip_packets.proofs.Sayings.{carried_encapsulated, carried_opened}
use Rattle.mip_packets.proofs.laws.tunnels_keep_what_is_said.Goals as goal

pub returns-clause-entry : goal.returns-clause-entry
returns-clause-entry c = carried_encapsulated

pub returns-clause-exit : goal.returns-clause-exit
returns-clause-exit c = carried_opened
