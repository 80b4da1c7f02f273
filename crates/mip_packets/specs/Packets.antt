-- The packets that nodes and outsiders make: hop limit 64, traffic class 0, flow label 0.
use Rattle.std.specs.Prelude.{ℕ, List, take, Option, None}
use Rattle.mip_words.specs.Protocols.{icmpv6}
use Rattle.mip_words.specs.declared.address.Address.{Address}
use Rattle.mip_ipv6.specs.declared.head.Head.{Head}
use Rattle.mip_ipv6.specs.Spelling.{packet_bytes}
use Rattle.mip_ipv6.specs.Packet.{source_of, destination_of}
use Rattle.mip_mobhdr.specs.Said.{Said}
use Rattle.mip_mobhdr.specs.Spelling.{message_bytes}
use Rattle.mip_icmp.specs.Said as icmp
use Rattle.mip_icmp.specs.Spelling.{icmp_bytes}

-- the head of a packet that a node makes: from and to these addresses, with a type 2 routing header and a
-- Home Address option where there are any. RFC 6275 sections 6.3 and 6.4
abbrev pub node_head : (source destination : Address) (route home : Option Address) (proto : ℕ) → Head
node_head source destination route home proto =
    record { source = source; destination = destination; hop = 64; class = 0; flow = 0; route = route; home = home; proto = proto }

-- without extension headers
abbrev pub straight : Address → Address → ℕ → Head
straight source destination proto = node_head source destination None None proto

-- a packet with this body
unfoldable pub data_packet : Head → List ℕ → List ℕ
data_packet head body = packet_bytes (record { head = head; body = body })

-- a packet with a mobility message, whose checksum counts home addresses where there are any. RFC 6275 section 6.1.1
unfoldable pub message_packet : Head → Said → List ℕ
message_packet head message = packet_bytes (record { head = head; body = message_bytes (source_of head) (destination_of head) message })

-- the Parameter Problem that points at a byte of this packet, of which it quotes no more than fits
-- into 1,280 bytes. RFC 4443 section 3.4
unfoldable pub problem_packet : (source destination : Address) → ℕ → List ℕ → List ℕ
problem_packet source destination pointer packet =
    packet_bytes (record { head = straight source destination icmpv6; body = icmp_bytes source destination (icmp.Parameter pointer (take 1232 packet)) })
