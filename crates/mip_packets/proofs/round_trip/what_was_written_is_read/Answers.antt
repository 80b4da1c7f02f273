use Rattle.mip_packets.proofs.WrittenPackets.{read_back}
use Rattle.mip_packets.proofs.round_trip.what_was_written_is_read.Goals as goal

pub returns : goal.returns
returns c = λ p q plain read. read_back p q plain read
