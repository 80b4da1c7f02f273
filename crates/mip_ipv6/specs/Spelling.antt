-- How packets are spelled in bytes: everything that a receiver accepts, and the canonical spelling.
-- RFC 8200 sections 3 and 4, RFC 6275 sections 6.3 and 6.4
use Rattle.std.specs.Prelude.{◌≡◌, ℕ, ◌+◌, ◌-◌, ◌*◌, ◌/◌, ◌%◌, ◌^◌, ◌<◌, ◌≤◌, List, [], ◌∷◌, ◌++◌, length, drop, slice_index, IsTrue, IsFalse, Option, Some, None, option_to_list}
use Rattle.std.specs.List.{AllByRecursion, flat_map}
use Rattle.mip_words.specs.Numbers.{number_at, number_bytes}
use Rattle.mip_words.specs.Addresses.{address_at, address_bytes, is_routable}
use Rattle.mip_words.specs.declared.address.Address.{Address}
use Rattle.mip_ipv6.specs.declared.head.Head.{Head}
use Rattle.mip_ipv6.specs.Packet.{Packet, names_no_body}

-- one destination option: Pad1; PadN or another option that may be skipped; a home address
pub data Piece : Type 0 where
  Pad : Piece
  Skipped : (type : ℕ) (contents : List ℕ) → Piece
  Home : (address : Address) (contents : List ℕ) → Piece

-- the two highest bits of a type that may be skipped are zero. RFC 8200 section 4.2
abbrev pub IsPiece : Piece → Type 0
IsPiece Pad = Unit {0}
IsPiece (Skipped type contents) = (0 < type) × (type < 64)
IsPiece (Home address contents) = (length contents ≡ 16) × (address_at 0 contents ≡ address) × IsTrue (is_routable address.0)

abbrev pub piece_bytes : Piece → List ℕ
piece_bytes Pad = 0 ∷ []
piece_bytes (Skipped type contents) = type ∷ length contents ∷ contents
piece_bytes (Home address contents) = 201 ∷ 16 ∷ contents

abbrev pub home_in : Piece → List Address
home_in Pad = []
home_in (Skipped type contents) = []
home_in (Home address contents) = address ∷ []

-- options with at most this one home address among them
abbrev pub IsArea : Option Address → List ℕ → Type 0
IsArea home area =
    (pieces : List Piece) × AllByRecursion IsPiece pieces × (flat_map home_in pieces ≡ option_to_list home) × (area ≡ flat_map piece_bytes pieces)

-- a routing header between the next-header numbers n and m, or none. Its reserved bytes 4 to 7 are anything
abbrev pub IsRouting : Option Address → ℕ → ℕ → List ℕ → Type 0
IsRouting None n m bytes = (n ≡ m) × (bytes ≡ [])
IsRouting (Some home) n m bytes =
    (n ≡ 43) × (length bytes ≡ 24) × (slice_index bytes 0 ≡ m) × (slice_index bytes 1 ≡ 2) × (slice_index bytes 2 ≡ 2)
    × (slice_index bytes 3 ≡ 1) × (address_at 8 bytes ≡ home) × IsTrue (is_routable home.0)

-- a Destination Options header between the next-header numbers n and m, or none
abbrev pub IsOptions : Option Address → ℕ → ℕ → List ℕ → Type 0
IsOptions home n m [] = (home ≡ None) × (n ≡ m)
IsOptions home n m (next ∷ []) = ⊥
IsOptions home n m (next ∷ size ∷ area) = (n ≡ 60) × (next ≡ m) × (length area ≡ 8 * size + 6) × IsArea home area

-- these bytes spell the packet
pub record IsPacket (p : Packet) (bytes : List ℕ) : Type 0 where
  pub long : 40 ≤ length bytes
  pub version : number_at 4 0 bytes / 2 ^ 28 ≡ 6
  pub class : number_at 4 0 bytes / 2 ^ 20 % 256 ≡ p.head.class
  pub flow : number_at 4 0 bytes % 2 ^ 20 ≡ p.head.flow
  pub size : number_at 2 4 bytes ≡ length bytes - 40
  pub hop : slice_index bytes 7 ≡ p.head.hop
  pub source : address_at 8 bytes ≡ p.head.source
  pub destination : address_at 24 bytes ≡ p.head.destination
  pub second : ℕ
  pub routing : List ℕ
  pub options : List ℕ
  pub is_routing : IsRouting p.head.route (slice_index bytes 6) second routing
  pub is_options : IsOptions p.head.home second p.head.proto options
  pub is_body : IsFalse (names_no_body p.head.proto)
  pub whole : drop 40 bytes ≡ routing ++ (options ++ p.body)

-- the canonical routing header, with the next-header number behind it
unfoldable pub routing_bytes : Option Address → ℕ → List ℕ
routing_bytes None next = []
routing_bytes (Some home) next = next ∷ 2 ∷ 2 ∷ 1 ∷ 0 ∷ 0 ∷ 0 ∷ 0 ∷ address_bytes home

-- the canonical Destination Options header: a PadN of 4 bytes, and the home address
unfoldable pub options_bytes : Option Address → ℕ → List ℕ
options_bytes None next = []
options_bytes (Some home) next = next ∷ 2 ∷ 1 ∷ 2 ∷ 0 ∷ 0 ∷ 201 ∷ 16 ∷ address_bytes home

-- the next-header number in front of the Destination Options header, if any
abbrev pub second_number : Option Address → ℕ → ℕ
second_number None proto = proto
second_number (Some home) proto = 60

-- the next-header number in front of the routing header, if any
abbrev pub first_number : Option Address → ℕ → ℕ
first_number None second = second
first_number (Some home) second = 43

-- what stands behind the first 40 bytes
unfoldable pub behind_bytes : Packet → List ℕ
behind_bytes p =
    routing_bytes p.head.route (second_number p.head.home p.head.proto) ++ (options_bytes p.head.home p.head.proto ++ p.body)

-- the first 40 bytes, with the next-header number and the number of bytes behind them
unfoldable pub fixed_bytes : Head → ℕ → ℕ → List ℕ
fixed_bytes head next size =
    number_bytes 4 (6 * 2 ^ 28 + head.class * 2 ^ 20 + head.flow)
    ++ (number_bytes 2 size ++ (next ∷ head.hop ∷ (address_bytes head.source ++ address_bytes head.destination)))

-- the canonical spelling
unfoldable pub packet_bytes : Packet → List ℕ
packet_bytes p =
    fixed_bytes p.head (first_number p.head.route (second_number p.head.home p.head.proto)) (length (behind_bytes p)) ++ behind_bytes p
