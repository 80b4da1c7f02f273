use Rattle.mip_packets.proofs.WrittenSayings.{message_says}
use Rattle.mip_packets.proofs.round_trip.messages_say_their_tests.Goals as goal

pub returns : goal.returns
returns c = λ head m proto. message_says head m proto
