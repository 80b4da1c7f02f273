-- The advertisement of a router (RFC 4861 section 4.2, RFC 6275 section 7.1).
use Rattle.std.specs.Prelude.{ℕ, ◌*◌, ◌+◌, ◌-◌, ◌^◌, List, Bool, Some, None}
use Rattle.mip_words.specs.Addresses.{all_nodes, joined_address}
use Rattle.mip_words.specs.declared.address.Address.{Address}
use Rattle.mip_words.specs.declared.prefix.Prefix.{Prefix}
use Rattle.mip_ipv6.specs.declared.head.Head.{Head}
use Rattle.mip_icmp.specs.Said.{Said, Advertisement}
use Rattle.mip_icmp.specs.Spelling.{icmp_bytes}
use Rattle.mip_icmp.specs.declared.prefix_info.PrefixInfo.{PrefixInfo}
use Rattle.mip_packets.specs.Packets.{data_packet}

-- the router, fe80::1
abbrev pub router : Address
router = record { 0 = 65152 * 2 ^ 112 + 1 }

-- a packet that has passed no router: its hop limit is 255. RFC 4861 section 6.1.2
abbrev pub router_head : Head
router_head = record { source = router; destination = all_nodes; hop = 255; class = 0; flow = 0; route = None; home = None; proto = 58 }

-- the prefix is on the link, addresses are made from it, and it lasts
abbrev pub prefix_info : Prefix → PrefixInfo
prefix_info prefix = record { length = 64; flags = 192; valid = 2 ^ 32 - 1; preferred = 2 ^ 32 - 1; address = record { 0 = joined_address prefix.0 0 } }

abbrev pub router_said : Prefix → Bool → Said
router_said prefix agent = Advertisement 64 agent 1800 (record { prefix = Some (prefix_info prefix); interval = None; agent = None })

-- the packet by which the router of a link advertises its prefix, and says whether it is a home agent
unfoldable pub advert_packet : Prefix → Bool → List ℕ
advert_packet prefix agent = data_packet router_head (icmp_bytes router all_nodes (router_said prefix agent))
