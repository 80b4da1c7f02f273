-- What a mobile does about ICMPv6 messages. RFC 6275 sections 11.4.1 and 11.4.3
use Rattle.std.specs.Prelude.{ℕ, List, [], ◌∷◌, Bool, false, ◌==◌, if◌then◌else◌, Option, Some, None, Result, Ok, Err, zero, suc, length, ◌/◌, drop}
use Rattle.mip_words.specs.Addresses.{address_at}
use Rattle.mip_words.specs.declared.address.Address.{Address}
use Rattle.mip_words.specs.declared.shield.Shield.{Shield}
use Rattle.mip_words.specs.declared.why.Why.TheVariants as whys
use Rattle.mip_ipv6.specs.Packet.{Packet, source_of, destination_of}
use Rattle.mip_icmp.specs.declared.fault.IcmpFault.{IcmpFault}
use Rattle.mip_icmp.specs.declared.options.IcmpSet.{IcmpSet}
use Rattle.mip_icmp.specs.declared.prefix_info.PrefixInfo.{PrefixInfo}
use Rattle.mip_icmp.specs.Said.{Said, DiscoverReply, PrefixReply}
use Rattle.mip_icmp.specs.Reading.{icmp_of}
use Rattle.mip_discovery.specs.Retries.{DiscoverySeen}
use Rattle.mip_rules_mobile.specs.declared.attachment.Attachment.{Attachment}
use Rattle.mip_rules_mobile.specs.declared.attachment.Attachment.TheVariants.{Away}
use Rattle.mip_rules_mobile.specs.Steps.{Drops, Finds, Chooses, Learns, Stops}
use Rattle.mip_rules_mobile.specs.HomeQuestions.{agent_of}
use Rattle.mip_rules_mobile.specs.TimerQuestions.{seeking}
use Rattle.mip_rules_mobile.specs.Transitions.{Transition, noted}
use Rattle.mip_rules_mobile.specs.HomeRules.{registers}

-- so many addresses, one after another
abbrev pub addresses_of : ℕ → List ℕ → List Address
addresses_of zero bytes = []
addresses_of (suc n) bytes = address_at 0 bytes ∷ addresses_of n (drop 16 bytes)

-- the addresses that a reply names
abbrev pub agents_named : List ℕ → List Address
agents_named bytes = addresses_of (length bytes / 16) bytes

-- the reply answers the discovery under way
abbrev pub is_matched : Option DiscoverySeen → ℕ → Bool
is_matched None identifier = false
is_matched (Some d) identifier = identifier == d.identifier

abbrev pub drops_icmp : ℕ → Transition → Transition
drops_icmp number t = noted (Drops number whys.Icmp) t

-- the first agent is chosen, and a home registration goes to it
abbrev pub finds : ℕ → Attachment → List Address → Transition → Transition
finds number (Away careof) (agent ∷ others) t =
    registers careof (noted (Chooses agent) (noted (Stops seeking) (noted (Finds (agent ∷ others)) t)))
finds number standing agents t = drops_icmp number t

unfoldable pub takes_discovery_reply : ℕ → (identifier : ℕ) → List ℕ → Transition → Transition
takes_discovery_reply number identifier agents t =
    if is_matched t.known.discovery identifier then finds number t.known.standing (agents_named agents) t else drops_icmp number t

-- protected by the agent
abbrev pub is_from_agent : Option Shield → Option Address → Bool
is_from_agent None agent = false
is_from_agent (Some shield) None = false
is_from_agent (Some shield) (Some agent) = shield.from.0 == agent.0

abbrev pub learns : ℕ → Bool → Option PrefixInfo → Transition → Transition
learns number right None t = drops_icmp number t
learns number right (Some p) t = if right then noted (Learns p.valid p.preferred) t else drops_icmp number t

-- a Mobile Prefix Advertisement of the agent with a prefix
unfoldable pub takes_prefix_reply : ℕ → Option Shield → IcmpSet → Transition → Transition
takes_prefix_reply number shield options t = learns number (is_from_agent shield (agent_of t.known t.now)) options.prefix t

abbrev pub by_icmp : ℕ → Option Shield → Result Said IcmpFault → Transition → Transition
by_icmp number shield (Err fault) t = drops_icmp number t
by_icmp number shield (Ok (DiscoverReply identifier agents)) t = takes_discovery_reply number identifier agents t
by_icmp number shield (Ok (PrefixReply identifier options)) t = takes_prefix_reply number shield options t
by_icmp number shield (Ok other) t = drops_icmp number t

unfoldable pub takes_icmp : ℕ → Option Shield → Packet → Transition → Transition
takes_icmp number shield p t = by_icmp number shield (icmp_of (source_of p.head) (destination_of p.head) p.body) t
