-- The packets that a mobile sends, one kind a line. RFC 6275 sections 6.1, 6.5, 6.7, 11.3, 11.4, 11.6 and 11.7
use Rattle.std.specs.Prelude.{ℕ, ◌==◌, List, Bool, true, false, if◌then◌else◌, Option, Some, None, is_some, Result, Ok, Err}
use Rattle.mip_words.specs.Protocols.{mobility_header, icmpv6}
use Rattle.mip_words.specs.Addresses.{joined_address, prefix_of}
use Rattle.mip_words.specs.declared.address.Address.{Address}
use Rattle.mip_words.specs.declared.shield.Shield.{Shield}
use Rattle.mip_ipv6.specs.declared.head.Head.{Head}
use Rattle.mip_ipv6.specs.declared.not_packet.NotPacket.{NotPacket}
use Rattle.mip_ipv6.specs.Packet.{Packet, source_of, destination_of}
use Rattle.mip_ipv6.specs.Reading.{packet_of}
use Rattle.mip_mobhdr.specs.OptionValues.{Values, nothing}
use Rattle.mip_mobhdr.specs.Said.Said.{Update}
use Rattle.mip_icmp.specs.Said as icmp
use Rattle.mip_icmp.specs.Spelling.{icmp_bytes}
use Rattle.mip_reception.specs.Packets.{node_head, straight, data_packet, message_packet}
use Rattle.mip_reception.specs.Authenticated.{authenticated_packet}
use Rattle.mip_reception.specs.Messages.{home_init_packet, careof_init_packet}
use Rattle.mip_ipv6.specs.Tunnel.{encapsulated}
use Rattle.mip_bulist.specs.declared.made.Made.{Made}
use Rattle.mip_words.specs.Constants.{max_home_lifetime, max_rr_binding_lifetime}

-- a packet from the home address
pub data Inner : Type 0 where
  -- one of the correspondent part, or what goes back to the source of a refused packet
  OfPart : (packet : List ℕ) → Inner
  -- a Home Test Init
  AsksHome : (peer : Address) (cookie : ℕ) → Inner
  -- one that the mobile was asked to send
  Given : (packet : List ℕ) → Inner

pub data Sending : Type 0 where
  -- a packet from the home address, at home
  FromHome : (home : Address) (inner : Inner) → Sending
  -- one through the tunnel to the agent, from a care-of address
  ByTunnel : (home careof agent : Address) (inner : Inner) → Sending
  -- a Care-of Test Init
  AsksCareof : (careof peer : Address) (cookie : ℕ) → Sending
  -- a home registration, and a deregistration
  RegistersHome : (home careof agent : Address) (sequence : ℕ) → Sending
  DeregistersHome : (home agent : Address) (sequence : ℕ) → Sending
  -- data to a peer that has a binding, to the care-of address that is held for the peer if there is one
  SendsData : (home careof to : Address) (held : Option Address) (proto : ℕ) (payload : List ℕ) → Sending
  -- a request of home agents, to all of the home link
  Discovers : (home careof : Address) (identifier : ℕ) → Sending
  -- a Mobile Prefix Solicitation
  Solicits : (home careof agent : Address) (identifier : ℕ) → Sending

-- an update to a peer, from the address that it is sent from, and the number of the binding where it binds
pub record PeerUpdate : Type 0 where
  pub home : Address
  pub source : Address
  pub peer : Address
  pub number : ℕ
  pub made : Made

-- a packet from the home address
abbrev pub inner_packet : Address → Inner → List ℕ
inner_packet home (OfPart packet) = packet
inner_packet home (AsksHome peer cookie) = home_init_packet home peer cookie
inner_packet home (Given packet) = packet

abbrev pub with_alternate : Address → Values
with_alternate careof = record nothing { alternate = Some careof }

-- the home registration: flags A and H, the care-of address also as an option. RFC 6275 section 11.7.1
unfoldable pub registration_packet : (home careof agent : Address) → ℕ → List ℕ
registration_packet home careof agent sequence =
    message_packet (node_head careof agent None (Some home) mobility_header) (Update sequence true true false false max_home_lifetime (with_alternate careof))

-- the deregistration, from home. RFC 6275 section 11.5.5
unfoldable pub deregistration_packet : (home agent : Address) → ℕ → List ℕ
deregistration_packet home agent sequence = message_packet (straight home agent mobility_header) (Update sequence true true false false 0 nothing)

-- data on the direct way: from the care-of address, in the name of the home address. RFC 6275 section 11.3.1
abbrev pub data_head : (home careof to : Address) (proto : ℕ) → Option Address → Head
data_head home careof to proto None = node_head careof to None (Some home) proto
data_head home careof to proto (Some held) = node_head careof held (Some to) (Some home) proto

-- the home-agents anycast address of the home link. RFC 2526
abbrev pub agents_of : Address → Address
agents_of home = record { 0 = joined_address (prefix_of home.0) 18302628885633695742 }

-- an ICMPv6 message, whose checksum counts the home address where there is one
abbrev pub icmp_packet : Head → icmp.Said → List ℕ
icmp_packet head message = data_packet head (icmp_bytes (source_of head) (destination_of head) message)

-- the request of home agents. RFC 6275 sections 6.5 and 11.4.1
unfoldable pub discovery_packet : (home careof : Address) → ℕ → List ℕ
discovery_packet home careof identifier = icmp_packet (straight careof (agents_of home) icmpv6) (icmp.DiscoverAsk identifier)

-- the Mobile Prefix Solicitation. RFC 6275 sections 6.7 and 11.4.2
unfoldable pub solicitation_packet : (home careof agent : Address) → ℕ → List ℕ
solicitation_packet home careof agent identifier =
    icmp_packet (node_head careof agent None (Some home) icmpv6) (icmp.PrefixAsk identifier)

abbrev pub packet_of_sending : Sending → List ℕ
packet_of_sending (FromHome home inner) = inner_packet home inner
packet_of_sending (ByTunnel home careof agent inner) = encapsulated careof agent (inner_packet home inner)
packet_of_sending (AsksCareof careof peer cookie) = careof_init_packet careof peer cookie
packet_of_sending (RegistersHome home careof agent sequence) = registration_packet home careof agent sequence
packet_of_sending (DeregistersHome home agent sequence) = deregistration_packet home agent sequence
packet_of_sending (SendsData home careof to held proto payload) = data_packet (data_head home careof to proto held) payload
packet_of_sending (Discovers home careof identifier) = discovery_packet home careof identifier
packet_of_sending (Solicits home careof agent identifier) = solicitation_packet home careof agent identifier

-- a packet that carries a mobility message
abbrev pub is_mobility : Result Packet NotPacket → Bool
is_mobility (Ok p) = p.head.proto == mobility_header
is_mobility (Err fault) = false

abbrev pub is_signal : Inner → Bool
is_signal (OfPart packet) = is_mobility (packet_of packet)
is_signal (AsksHome peer cookie) = true
is_signal (Given packet) = is_mobility (packet_of packet)

-- the mark of what goes from the mobile to its agent under protection
abbrev pub shield_to : (home agent : Address) → Option Shield
shield_to home agent = Some (record { from = home; to = agent })

-- what goes to the agent is protected, but for tunnels that carry no mobility message. RFC 6275 sections 5.1, 5.5 and 11.7.1
abbrev pub shield_of : Sending → Option Shield
shield_of (FromHome home inner) = None
shield_of (ByTunnel home careof agent inner) = if is_signal inner then shield_to home agent else None
shield_of (AsksCareof careof peer cookie) = None
shield_of (RegistersHome home careof agent sequence) = shield_to home agent
shield_of (DeregistersHome home agent sequence) = shield_to home agent
shield_of (SendsData home careof to held proto payload) = None
shield_of (Discovers home careof identifier) = None
shield_of (Solicits home careof agent identifier) = shield_to home agent

abbrev pub with_indices : Made → Values
with_indices made = record nothing { nonces = Some made.indices }

-- the Binding Number by which a number is asked for: none asks for 0
abbrev pub number_option : ℕ → Option ℕ
number_option number = if number == 0 then None else Some number

abbrev pub binding_values : PeerUpdate → Values
binding_values u = record (with_indices u.made) { number = number_option u.number }

-- the update to a peer, with flag A, under the key of its tokens: it binds, from the care-of address and in the name of the
-- home address, with its number; or it deletes, from home. RFC 6275 sections 6.1.7, 11.7.2 and 11.5.5
abbrev pub update_bytes : PeerUpdate → Bool → List ℕ
update_bytes u true =
    authenticated_packet (node_head u.source u.peer None (Some u.home) mobility_header) u.made.kbm.0 u.source u.peer
    (Update u.made.sequence true false false false max_rr_binding_lifetime (binding_values u))
update_bytes u false =
    authenticated_packet (straight u.source u.peer mobility_header) u.made.kbm.0 u.source u.peer (Update u.made.sequence true false false false 0 (with_indices u.made))

unfoldable pub update_packet : PeerUpdate → List ℕ
update_packet u = update_bytes u (is_some u.made.careof)
