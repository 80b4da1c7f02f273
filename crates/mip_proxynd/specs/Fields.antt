-- What a reader and a writer of neighbour messages both name.
--
--    0                   1                   2                   3
--    0 1 2 3 4 5 6 7 8 9 0 1 2 3 4 5 6 7 8 9 0 1 2 3 4 5 6 7 8 9 0 1
--   |     Type      |     Code      |          Checksum             |
--   |R|S|O|                     Reserved                            |
--   |                     Target Address, 16 bytes                  |
--   |   Options ...
--
-- A solicitation has type 135 and no flags, an advertisement type 136. RFC 4861 sections 4.3 and 4.4
use Rattle.std.specs.Prelude.{ℕ, ◌/◌, ◌%◌, ◌^◌, List, Bool, ◌||◌, ◌==◌, slice_index}
use Rattle.mip_words.specs.Addresses.{address_at}
use Rattle.mip_words.specs.declared.address.Address.{Address}
use Rattle.mip_proxynd.specs.declared.neighbour.Neighbour.{Neighbour}
use Rattle.mip_proxynd.specs.declared.neighbour.Neighbour.TheVariants.{Solicit, Advert}

abbrev pub is_known : ℕ → Bool
is_known type = type == 135 || type == 136

-- a multicast address: its first byte is ff. RFC 4291 section 2.7
abbrev pub is_group : Address → Bool
is_group address = address.0 / 2 ^ 120 == 255

-- a flag is one bit of the fifth byte
abbrev pub has_flag : ℕ → List ℕ → Bool
has_flag worth body = slice_index body 4 / worth % 2 == 1

abbrev pub target_at : List ℕ → Address
target_at body = address_at 8 body

abbrev pub target_of : Neighbour → Address
target_of (Solicit target layer) = target
target_of (Advert router solicited over target layer) = target
