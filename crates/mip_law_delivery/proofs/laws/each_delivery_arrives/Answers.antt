use Rattle.mip_law_delivery.proofs.Ordering.{orderly_text}
use Rattle.mip_law_delivery.proofs.laws.each_delivery_arrives.Goals as goal

pub returns : goal.returns
returns c = λ text content read. c.data_reaches_its_end.ensures content content.events (orderly_text text content read)
