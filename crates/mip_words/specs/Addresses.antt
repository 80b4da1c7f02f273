-- Addresses and prefixes as numbers, and which addresses a packet may be routed to.
use Rattle.std.specs.Prelude.{ℕ, ◌+◌, ◌*◌, ◌/◌, ◌^◌, List, Bool, not, ◌&&◌, ◌==◌, Option, Some, None, Result, Ok, Err}
use Rattle.mip_words.specs.Numbers.{number_at, number_bytes}
use Rattle.mip_words.specs.Hex.{unhex_exact}
use Rattle.mip_words.specs.declared.address.Address.{Address}
use Rattle.mip_words.specs.declared.address.NotAddress.{NotAddress}

-- the address in the 16 bytes from a place
abbrev pub address_at : ℕ → List ℕ → Address
address_at place bytes = record { 0 = number_at 16 place bytes }

-- the 16 bytes of an address
abbrev pub address_bytes : Address → List ℕ
address_bytes address = number_bytes 16 address.0

-- all nodes of a link, ff02::1. RFC 4291 section 2.7.1
abbrev pub all_nodes : Address
all_nodes = record { 0 = 65282 * 2 ^ 112 + 1 }

-- the address with this prefix and these last 64 bits
abbrev pub joined_address : ℕ → ℕ → ℕ
joined_address prefix interface = prefix * 2 ^ 64 + interface

-- the first 64 bits
abbrev pub prefix_of : ℕ → ℕ
prefix_of address = address / 2 ^ 64

-- none of: unspecified, loopback, multicast (first byte ff), link-local (first ten bits 1111111010).
-- RFC 4291 section 2.4
abbrev pub is_routable : ℕ → Bool
is_routable address =
    not (address == 0) && not (address == 1) && not (address / 2 ^ 120 == 255) && not (address / 2 ^ 118 == 1018)

-- the address of 16 bytes, where there are such bytes
abbrev pub address_if : Option (List ℕ) → Result Address NotAddress
address_if (Some bytes) = Ok (address_at 0 bytes)
address_if None = Err (record {})

-- the address whose 32 digits a text is
unfoldable pub address_read : List ℕ → Result Address NotAddress
address_read text = address_if (unhex_exact 16 text)
