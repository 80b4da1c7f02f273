-- The packets that a home agent makes itself.
use Rattle.std.specs.Prelude.{ℕ, List, Option, Some, None}
use Rattle.mip_words.specs.Protocols.{icmpv6}
use Rattle.mip_words.specs.declared.address.Address.{Address}
use Rattle.mip_words.specs.declared.shield.Shield.{Shield}
use Rattle.mip_ipv6.specs.declared.head.Head.{Head}
use Rattle.mip_icmp.specs.declared.options.IcmpSet.{IcmpSet}
use Rattle.mip_icmp.specs.Said.{Said, PrefixReply}
use Rattle.mip_icmp.specs.Spelling.{icmp_bytes}
use Rattle.mip_reception.specs.Packets.{node_head, data_packet}

-- under the shield of an agent and a home
abbrev pub shield_to : (own home : Address) → Option Shield
shield_to own home = Some (record { from = own; to = home })

-- the prefix of the agent's link, as its own address tells it, with the seconds for which it is valid and preferred
abbrev pub prefix_set : (own : Address) (valid preferred : ℕ) → IcmpSet
prefix_set own valid preferred = record {
  prefix = Some (record { length = 64; flags = 224; valid = valid; preferred = preferred; address = own });
  interval = None;
  agent = None;
}

abbrev pub prefix_said : (own : Address) (identifier valid preferred : ℕ) → Said
prefix_said own identifier valid preferred = PrefixReply identifier (prefix_set own valid preferred)

-- a Mobile Prefix Advertisement goes to the care-of address, through the home address. RFC 6275 sections 6.8 and 10.6.2
abbrev pub prefix_head : (own home careof : Address) → Head
prefix_head own home careof = node_head own careof (Some home) None icmpv6

unfoldable pub prefix_packet : (own home careof : Address) (identifier valid preferred : ℕ) → List ℕ
prefix_packet own home careof identifier valid preferred =
    data_packet (prefix_head own home careof) (icmp_bytes own home (prefix_said own identifier valid preferred))
