-- Lists of addresses as C has them: 16 bytes each, one behind the other.
use Rattle.std.specs.Prelude.{ℕ, ◌/◌, ◌%◌, ◌==◌, List, length, map, Bool}
use Rattle.std.specs.List.{list_all, list_any}
use Rattle.std.specs.Simd.{first_chunks}
use Rattle.mip_words.specs.Addresses.{address_at, is_routable}
use Rattle.mip_words.specs.declared.address.Address.{Address}

-- they are whole addresses
abbrev pub are_addresses : List ℕ → Bool
are_addresses bytes = length bytes % 16 == 0

-- each 16 bytes
abbrev pub sixteens : List ℕ → List (List ℕ)
sixteens bytes = first_chunks 16 (length bytes / 16) bytes

-- the addresses
abbrev pub addresses_in : List ℕ → List Address
addresses_in bytes = map (λ it. address_at 0 it) (sixteens bytes)

-- an address is among them
abbrev pub has_address : List ℕ → ℕ → Bool
has_address bytes address = list_any (λ it. (address_at 0 it).0 == address) (sixteens bytes)

-- each may be a home that is served: one that packets are routed to
abbrev pub are_served : List Address → Bool
are_served addresses = list_all (λ a. is_routable a.0) addresses
