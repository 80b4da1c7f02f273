-- The packets of neighbour messages.
use Rattle.std.specs.Prelude.{ℕ, ◌+◌, ◌*◌, ◌%◌, ◌^◌, List, [], ◌∷◌, false, true, Option, Some, None, nat_lt, if◌then◌else◌, slice_get, unwrap_or}
use Rattle.mip_words.specs.Addresses.{all_nodes}
use Rattle.mip_words.specs.Holders.{first_outsider}
use Rattle.mip_words.specs.declared.address.Address.{Address}
use Rattle.mip_ipv6.specs.declared.head.Head.{Head}
use Rattle.mip_ipv6.specs.Packet.{Packet}
use Rattle.mip_ipv6.specs.Spelling.{packet_bytes}
use Rattle.mip_symbols.specs.Places.{members}
use Rattle.mip_symbols.specs.declared.declaration.Declaration.{Declaration}
use Rattle.mip_symbols.specs.declared.declaration.Declaration.TheVariants as declare
use Rattle.mip_symbols.specs.declared.places.Sort.TheVariants as sorts
use Rattle.mip_proxynd.specs.declared.neighbour.Neighbour.{Neighbour}
use Rattle.mip_proxynd.specs.declared.neighbour.Neighbour.TheVariants.{Solicit, Advert}
use Rattle.mip_proxynd.specs.Adverts.{layer_of, advert}
use Rattle.mip_proxynd.specs.Spelling.{neighbour_bytes}

-- a packet that has passed no router: its hop limit is 255. RFC 4861 section 7.1
abbrev pub near_head : Address → Address → Head
near_head source destination = record { source = source; destination = destination; hop = 255; class = 0; flow = 0; route = None; home = None; proto = 58 }

abbrev pub near_packet : Address → Address → Neighbour → Packet
near_packet source destination m = record { head = near_head source destination; body = neighbour_bytes source destination m }

-- the packet of a message
unfoldable pub message_packet : Address → Address → Neighbour → List ℕ
message_packet source destination m = packet_bytes (near_packet source destination m)

-- the solicited-node address of a target, ff02::1:ff00:0 with its last 24 bits. RFC 4291 section 2.7.1
abbrev pub solicited_node : Address → Address
solicited_node target = record { 0 = 65282 * 2 ^ 112 + 511 * 2 ^ 24 + target.0 % 2 ^ 24 }

-- who asks, fe80::2, and its link-layer address
abbrev pub asker : Address
asker = record { 0 = 65152 * 2 ^ 112 + 2 }

abbrev pub asker_layer : List ℕ
asker_layer = 2 ∷ 0 ∷ 0 ∷ 0 ∷ 0 ∷ 255 ∷ []

-- the address with which a node was declared
abbrev pub declared_address : Declaration → Option Address
declared_address (declare.Agent name link address preference life room) = Some address
declared_address (declare.Correspondent name link address room) = Some address
declared_address (declare.Mobile name link address agent) = Some address
declared_address _ = None

abbrev pub address_or : Option Declaration → Address → Address
address_or (Some d) target = unwrap_or (declared_address d) target
address_or None target = target

-- the source of what a holder sends: the address of a node's declaration, or the address that an outsider holds
unfoldable pub source_of : List Declaration → ℕ → Address → Address
source_of ds who held = if nat_lt who first_outsider then address_or (slice_get (members sorts.Node ds) who) held else held

-- the advertisement of a claim
abbrev pub advert_packet : List Declaration → ℕ → Address → List ℕ
advert_packet ds who address = message_packet (source_of ds who address) all_nodes (advert who address)

-- the question who holds an address
abbrev pub solicit_packet : Address → List ℕ
solicit_packet address = message_packet asker (solicited_node address) (Solicit address (Some asker_layer))

-- and the answer of its holder: it is solicited, and it overrides
abbrev pub answer_packet : List Declaration → ℕ → Address → List ℕ
answer_packet ds who address = message_packet (source_of ds who address) asker (Advert false true true address (Some (layer_of who)))
