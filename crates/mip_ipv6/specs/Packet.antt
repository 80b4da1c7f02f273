-- A packet as a tree: the fields of its headers, and its body. RFC 8200 section 3, RFC 6275 sections 6.3 and 6.4
use Rattle.std.specs.Prelude.{◌≡◌, ℕ, ◌^◌, ◌≤◌, List, length, drop, Bool, true, not, ◌&&◌, ◌||◌, ◌==◌, nat_lt, Option, Some, None, unwrap_or}
use Rattle.mip_words.specs.Addresses.{is_routable}
use Rattle.mip_words.specs.declared.address.Address.{Address}
use Rattle.mip_ipv6.specs.declared.head.Head.{Head}
use Rattle.mip_ipv6.specs.declared.packet_ref.PacketRef.{PacketRef}

pub record Packet : Type 0 where
  pub head : Head
  pub body : List ℕ

-- what a reader returned, without its place in memory
abbrev pub packet : PacketRef → Packet
packet p = record { head = p.head; body = p.body.now }

-- the body stands at its place in the bytes that were read
abbrev pub IsAt : PacketRef → List ℕ → Type 0
IsAt p bytes = (40 ≤ p.place) × (p.place ≤ length bytes) × (p.body.now ≡ drop p.place bytes)

-- next-header numbers that name no body: Hop-by-Hop, Routing, Fragment, ESP, AH and Destination Options.
-- A second routing header, and one behind an options header, stand in the body's place too
abbrev pub names_no_body : ℕ → Bool
names_no_body number =
    (((((number == 0) || (number == 43)) || (number == 44)) || (number == 50)) || (number == 51)) || (number == 60)

-- an address that is routable where it is present
abbrev pub is_routable_if_any : Option Address → Bool
is_routable_if_any None = true
is_routable_if_any (Some address) = is_routable address.0

-- a head that can be written
abbrev pub is_plain : Head → Bool
is_plain head =
    nat_lt head.flow (2 ^ 20) && not (names_no_body head.proto) && is_routable_if_any head.route && is_routable_if_any head.home

-- whom a packet is from, and whom it is for: home addresses where a Home Address option or a routing header has them.
-- RFC 6275 sections 6.3 and 6.4
abbrev pub source_of : Head → Address
source_of head = unwrap_or head.home head.source

abbrev pub destination_of : Head → Address
destination_of head = unwrap_or head.route head.destination
