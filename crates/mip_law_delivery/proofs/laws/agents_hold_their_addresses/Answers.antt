use Rattle.mip_law_delivery.proofs.Owning.{own_held}
use Rattle.mip_law_delivery.proofs.laws.agents_hold_their_addresses.Goals as goal

pub returns : goal.returns
returns c = λ s orderly g own preference life room serves host events. own_held s orderly g own preference life room serves host events
