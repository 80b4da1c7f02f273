-- What kind of packet bytes are, in a word.
use Rattle.std.specs.Prelude.{ℕ, List, ◌==◌, if◌then◌else◌, Option, Some, None, Result, Ok, Err, codes}
use Rattle.mip_ipv6.specs.Packet.{Packet, source_of, destination_of}
use Rattle.mip_ipv6.specs.Reading.{packet_of}
use Rattle.mip_ipv6.specs.declared.not_packet.NotPacket.{NotPacket}
use Rattle.mip_mobhdr.specs.Said as mobility
use Rattle.mip_icmp.specs.Reading.{icmp_of}
use Rattle.mip_icmp.specs.Said as icmp
use Rattle.mip_icmp.specs.declared.fault.IcmpFault.{IcmpFault}
use Rattle.mip_packets.specs.Says.{message_in}
use Rattle.mip_explain.specs.Words.{message_word}

-- of a mobility message: its word, or `bad` where it is refused. RFC 6275 section 6.1
abbrev pub mobility_kind : Option mobility.Said → List ℕ
mobility_kind (Some message) = message_word message
mobility_kind None = codes "bad"

-- of an ICMPv6 message. RFC 6275 sections 6.5 to 6.8
abbrev pub icmp_kind : Result icmp.Said IcmpFault → List ℕ
icmp_kind (Ok message) = codes "icmp"
icmp_kind (Err fault) = codes "bad"

-- of a packet, by the number of its body
abbrev pub body_kind : Packet → List ℕ
body_kind p =
    if p.head.proto == 135 then mobility_kind (message_in p)
    else if p.head.proto == 58 then icmp_kind (icmp_of (source_of p.head) (destination_of p.head) p.body)
    else if p.head.proto == 41 then codes "tunnel"
    else if p.head.proto == 59 then codes "none"
    else codes "data"

abbrev pub packet_kind : Result Packet NotPacket → List ℕ
packet_kind (Ok p) = body_kind p
packet_kind (Err refusal) = codes "bad"

-- the kind of bytes: `bad` where they are no packet
unfoldable pub kind_of : List ℕ → List ℕ
kind_of bytes = packet_kind (packet_of bytes)
