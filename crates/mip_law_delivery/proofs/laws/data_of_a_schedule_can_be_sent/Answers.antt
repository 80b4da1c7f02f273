use Rattle.mip_law_delivery.proofs.Sendable.{payload_of_text}
use Rattle.mip_law_delivery.proofs.laws.data_of_a_schedule_can_be_sent.Goals as goal

pub returns : goal.returns
returns c = payload_of_text
