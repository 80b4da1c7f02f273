use Rattle.mip_law_delivery.proofs.Holding.{held_on_link}
use Rattle.mip_law_delivery.proofs.laws.held_addresses_are_on_links.Goals as goal

pub returns : goal.returns
returns c = held_on_link
