use Rattle.mip_discovery.proofs.OrderLaws.{in_order, live_in_order}
use Rattle.mip_discovery.proofs.laws.list_is_in_order.Goals as goal

pub returns-clause-all : goal.returns-clause-all
returns-clause-all c = in_order

pub returns-clause-live : goal.returns-clause-live
returns-clause-live c = live_in_order
