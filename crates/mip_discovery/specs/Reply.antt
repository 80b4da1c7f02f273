-- The answer to a discovery request. RFC 6275 sections 6.6 and 10.5
use Rattle.std.specs.Prelude.{ℕ, List, ◌∷◌, ◌++◌, map, take, Bool, not, ◌&&◌, nat_lt}
use Rattle.std.specs.List.{filter, flat_map}
use Rattle.mip_words.specs.Addresses.{address_bytes}
use Rattle.mip_words.specs.declared.address.Address.{Address}
use Rattle.mip_icmp.specs.Said.{DiscoverReply}
use Rattle.mip_icmp.specs.Spelling.{icmp_bytes}
use Rattle.mip_words.specs.Protocols.{icmpv6}
use Rattle.mip_packets.specs.Packets.{data_packet, straight}
use Rattle.mip_discovery.specs.declared.agent.Agent.{Agent}
use Rattle.mip_discovery.specs.Heard.{is_of}

-- another agent than the one that answers, of greater preference; and one that follows it
abbrev pub is_above : Address → ℕ → Agent → Bool
is_above own preference x = not (is_of own.0 x) && nat_lt preference x.preference

abbrev pub is_behind : Address → ℕ → Agent → Bool
is_behind own preference x = not (is_of own.0 x) && not (nat_lt preference x.preference)

-- the agents that a reply names: of the list in order, with the one that answers first among those of its
-- preference, the first 16
abbrev pub named : Address → ℕ → List Agent → List Address
named own preference xs =
    take 16 (map (λ x. x.address) (filter (is_above own preference) xs) ++ own ∷ map (λ x. x.address) (filter (is_behind own preference) xs))

-- the packet that names these agents
unfoldable pub discovery_reply : Address → ℕ → Address → ℕ → List Agent → List ℕ
discovery_reply own preference to identifier xs =
    data_packet (straight own to icmpv6) (icmp_bytes own to (DiscoverReply identifier (flat_map address_bytes (named own preference xs))))
