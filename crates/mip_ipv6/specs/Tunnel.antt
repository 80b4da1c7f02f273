-- Tunnels: a packet as the body of another. RFC 2473
use Rattle.std.specs.Prelude.{ℕ, ◌-◌, List, slice_index, slice_set, not, ◌==◌, if◌then◌else◌, None, Result, Ok, Err}
use Rattle.mip_words.specs.declared.address.Address.{Address}
use Rattle.mip_ipv6.specs.declared.head.Head.{Head}
use Rattle.mip_ipv6.specs.declared.not_packet.NotPacket.{NotPacket}
use Rattle.mip_ipv6.specs.Packet.{Packet}
use Rattle.mip_ipv6.specs.Reading.{packet_of}
use Rattle.mip_ipv6.specs.Spelling.{packet_bytes}
use Rattle.mip_ipv6.specs.declared.exit_fault.ExitFault.{ExitFault}
use Rattle.mip_ipv6.specs.declared.exit_fault.ExitFault.TheVariants.{NotTunnel, WrongEntry, Inner}

-- the hop limit of a packet in bytes
abbrev pub hop_of : List ℕ → ℕ
hop_of packet = slice_index packet 7

-- a packet in bytes with its hop limit one less, as each node that forwards it leaves it
unfoldable pub lowered : List ℕ → List ℕ
lowered packet = slice_set packet 7 (hop_of packet - 1)

-- the same for a packet that was read
abbrev pub lowered_packet : Packet → Packet
lowered_packet p = record { head = record p.head { hop = p.head.hop - 1 }; body = p.body }

-- the head of a tunnel packet. RFC 2473 section 5.1
abbrev pub outer_head : Address → Address → Head
outer_head entry exit = record {
  source = entry;
  destination = exit;
  hop = 64;
  class = 0;
  flow = 0;
  route = None;
  home = None;
  proto = 41;
}

-- a tunnel packet. RFC 2473 section 3.1: its entry lowers the hop limit of the packet that it takes
abbrev pub tunnel_packet : Address → Address → List ℕ → Packet
tunnel_packet entry exit packet = record { head = outer_head entry exit; body = lowered packet }

-- its bytes
unfoldable pub encapsulated : Address → Address → List ℕ → List ℕ
encapsulated entry exit packet = packet_bytes (tunnel_packet entry exit packet)

abbrev pub inner : Result Packet NotPacket → Result Packet ExitFault
inner (Ok p) = Ok p
inner (Err fault) = Err (Inner fault)

-- what the exit of a tunnel makes of a packet, where the tunnel begins at this entry. RFC 2473 section 3.3
unfoldable pub opened : Address → Packet → Result Packet ExitFault
opened entry p =
    if not (p.head.proto == 41) then Err NotTunnel
    else if not (p.head.source.0 == entry.0) then Err (WrongEntry p.head.source)
    else inner (packet_of p.body)
