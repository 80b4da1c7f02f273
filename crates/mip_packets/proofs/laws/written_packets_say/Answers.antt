use Rattle.mip_packets.proofs.Sayings.{carried_message, carried_other}
use Rattle.mip_packets.proofs.laws.written_packets_say.Goals as goal

pub returns-clause-message : goal.returns-clause-message
returns-clause-message c = carried_message

pub returns-clause-other : goal.returns-clause-other
returns-clause-other c = carried_other
