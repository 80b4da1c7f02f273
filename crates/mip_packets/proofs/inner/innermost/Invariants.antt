use Rattle.std.proofs.Common.{◌≡◌, length}
use Rattle.mip_ipv6.specs.Packet.{packet}
use Rattle.mip_packets.specs.Says.{innermost}
use Rattle.mip_packets.proofs.Nesting.{within}
use Rattle.mip_packets.proofs.inner.innermost.Given as goal

-- the packet so far has the same innermost one
abbrev pub invariant-loop-packet : goal.invariant-loop-packet
invariant-loop-packet l = innermost l.bytes ≡ within (packet l.packet)

abbrev pub decreases-loop-packet : goal.decreases-loop-packet
decreases-loop-packet l = length l.packet.body.now
