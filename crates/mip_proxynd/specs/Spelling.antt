-- Which bytes spell a neighbour message: all that a reader accepts, and those that a writer gives.
use Rattle.std.specs.Prelude.{◌≡◌, ℕ, ◌+◌, ◌%◌, ◌≤◌, List, [], ◌∷◌, ◌++◌, length, drop, Option, Some, None, Bool, false, slice_index, if◌then◌else◌}
use Rattle.mip_words.specs.Addresses.{address_bytes}
use Rattle.mip_words.specs.declared.address.Address.{Address}
use Rattle.mip_ipv6.specs.Sum.{message_sum, checksum_of, with_number_at}
use Rattle.mip_proxynd.specs.declared.layers.Layers.{Layers}
use Rattle.mip_proxynd.specs.declared.neighbour.Neighbour.{Neighbour}
use Rattle.mip_proxynd.specs.declared.neighbour.Neighbour.TheVariants.{Solicit, Advert}
use Rattle.mip_proxynd.specs.Fields.{is_group, has_flag, target_at}
use Rattle.mip_proxynd.specs.Options.{IsArea}

abbrev pub type_of : Neighbour → ℕ
type_of (Solicit target layer) = 135
type_of (Advert router solicited over target layer) = 136

-- the fields of a message stand at these places of its bytes; bits that are not named are reserved
abbrev pub IsFields : Neighbour → List ℕ → Type 0
IsFields (Solicit target layer) body =
    (target_at body ≡ target) × (layers : Layers) × IsArea layers (drop 24 body) × (layers.source ≡ layer)
IsFields (Advert router solicited over target layer) body =
    (has_flag 128 body ≡ router) × (has_flag 64 body ≡ solicited) × (has_flag 32 body ≡ over)
    × (target_at body ≡ target) × (layers : Layers) × IsArea layers (drop 24 body) × (layers.target ≡ layer)

-- these bytes between two addresses, in a packet with this hop limit, spell this message
pub record IsNeighbour (source destination : Address) (hop : ℕ) (m : Neighbour) (body : List ℕ) : Type 0 where
  pub near : hop ≡ 255
  pub long : 24 ≤ length body
  pub sum : message_sum source destination 58 body % 65535 ≡ 0
  pub type : slice_index body 0 ≡ type_of m
  pub code : slice_index body 1 ≡ 0
  pub target : is_group (target_at body) ≡ false
  pub fields : IsFields m body

-- an option with a link-layer address, where there is one
abbrev pub layer_bytes : ℕ → Option (List ℕ) → List ℕ
layer_bytes type None = []
layer_bytes type (Some layer) = type ∷ 1 ∷ layer

-- what a flag adds to the byte of flags
abbrev pub flag_worth : Bool → ℕ → ℕ
flag_worth flag worth = if flag then worth else 0

-- the byte of flags
abbrev pub flags_of : Bool → Bool → Bool → ℕ
flags_of router solicited over = flag_worth router 128 + flag_worth solicited 64 + flag_worth over 32

-- the canonical spelling but for the checksum, which is zero here
unfoldable pub unsummed : Neighbour → List ℕ
unsummed (Solicit target layer) =
    135 ∷ 0 ∷ 0 ∷ 0 ∷ 0 ∷ 0 ∷ 0 ∷ 0 ∷ (address_bytes target ++ layer_bytes 1 layer)
unsummed (Advert router solicited over target layer) =
    136 ∷ 0 ∷ 0 ∷ 0 ∷ flags_of router solicited over ∷ 0 ∷ 0 ∷ 0 ∷ (address_bytes target ++ layer_bytes 2 layer)

-- the canonical spelling between two addresses
unfoldable pub neighbour_bytes : Address → Address → Neighbour → List ℕ
neighbour_bytes source destination m = with_number_at 2 (checksum_of source destination 58 (unsummed m) 2) (unsummed m)
