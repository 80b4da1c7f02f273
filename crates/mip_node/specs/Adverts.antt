-- The router advertisements that a mobile takes from its link. RFC 4861 section 6.1.2, RFC 6275 section 7.2
use Rattle.std.specs.Prelude.{ℕ, ◌+◌, ◌*◌, ◌^◌, Bool, ◌&&◌, ◌==◌, if◌then◌else◌, Option, Some, None, is_some, Result, Ok, Err}
use Rattle.mip_words.specs.Addresses.{prefix_of}
use Rattle.mip_ipv6.specs.Packet.{Packet, source_of, destination_of}
use Rattle.mip_ipv6.specs.Reading.{packet_of}
use Rattle.mip_ipv6.specs.declared.head.Head.{Head}
use Rattle.mip_ipv6.specs.declared.not_packet.NotPacket.{NotPacket}
use Rattle.mip_icmp.specs.Reading.{icmp_of}
use Rattle.mip_icmp.specs.Said.{Said, Advertisement}
use Rattle.mip_icmp.specs.declared.fault.IcmpFault.{IcmpFault}
use Rattle.mip_icmp.specs.declared.prefix_info.PrefixInfo.{PrefixInfo}
use Rattle.mip_frames.specs.Framing.{Framed}

-- all nodes of a link, ff02::1. RFC 4291 section 2.7.1
abbrev pub all_nodes : ℕ
all_nodes = 65282 * 2 ^ 112 + 1

-- the prefix of an option 3 whose prefix has 64 bits
abbrev pub prefix_said : Option PrefixInfo → Option ℕ
prefix_said None = None
prefix_said (Some info) = if info.length == 64 then Some (prefix_of info.address.0) else None

-- what an advertisement tells
abbrev pub prefix_told : Result Said IcmpFault → Option ℕ
prefix_told (Ok (Advertisement hop agent life options)) = prefix_said options.prefix
prefix_told (Ok _) = None
prefix_told (Err fault) = None

-- ICMPv6 to all nodes of the link, from a node of the link: its hop limit is still the highest
abbrev pub is_to_all : Head → Bool
is_to_all head = ((destination_of head).0 == all_nodes) && ((head.hop == 255) && (head.proto == 58))

abbrev pub prefix_in : Result Packet NotPacket → Option ℕ
prefix_in (Ok p) = if is_to_all p.head then prefix_told (icmp_of (source_of p.head) (destination_of p.head) p.body) else None
prefix_in (Err fault) = None

-- the prefix that a frame advertises
unfoldable pub prefix_of_frame : Framed → Option ℕ
prefix_of_frame frame = if is_some frame.shield then None else prefix_in (packet_of frame.packet)
