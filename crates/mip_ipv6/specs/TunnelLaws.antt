-- Laws and invariants of Tunnel: only proofs stand on them.
use Rattle.std.specs.Prelude.{Result, Ok, Err}
use Rattle.mip_ipv6.specs.declared.not_packet.NotPacket.{NotPacket}
use Rattle.mip_ipv6.specs.Packet.{Packet}
use Rattle.mip_ipv6.specs.Tunnel.{lowered_packet}

abbrev pub lowered_if_read : Result Packet NotPacket → Result Packet NotPacket
lowered_if_read (Ok p) = Ok (lowered_packet p)
lowered_if_read (Err fault) = Err fault
