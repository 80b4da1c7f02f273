use Rattle.std.proofs.Common.{arith}
use Rattle.mip_node.proofs.Coming.{came_some}
use Rattle.mip_node.proofs.turn.next_datagram.Goals as goal

pub returns-in_ok-datagram-in-Ok-Some-clause-came :
    goal.returns-in_ok-datagram-in-Ok-Some-clause-came
returns-in_ok-datagram-in-Ok-Some-clause-came g c =
    came_some (g.L.Link.coming c.args.link.now) c.in-Ok-Some.field-0 c.in-Ok-Some.count c.receive.new.into c.in_ok-datagram-in-Ok-Some.datagram
    c.in-Ok-Some.field-0-is (omega arith) c.in_ok-datagram-in-Ok-Some.ensures c.in-Ok-Some.ensures.came
