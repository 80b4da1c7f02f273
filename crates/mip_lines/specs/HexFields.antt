-- Fields of hexadecimal digits: numbers of a fixed width, addresses, and bytes with `-` for none.
use Rattle.std.specs.Prelude.{ℕ, ◌/◌, List, [], ◌∷◌, length, ◌||◌, ◌==◌, nat_lt, if◌then◌else◌, Option, Some, None, option_map, codes}
use Rattle.std.specs.Result.{result_ok}
use Rattle.std.specs.Str.{bytes_eq}
use Rattle.mip_words.specs.Numbers.{number_at, number_bytes}
use Rattle.mip_words.specs.Hex.{hex_of, unhex_exact}
use Rattle.mip_words.specs.Addresses.{address_read, address_bytes}
use Rattle.mip_words.specs.declared.address.Address.{Address}

-- the number of n bytes whose digits the field is
unfoldable pub hex_number : ℕ → List ℕ → Option ℕ
hex_number n field = option_map (λ bytes. number_at n 0 bytes) (unhex_exact n field)

-- the digits of a number of n bytes
abbrev pub number_hex : ℕ → ℕ → List ℕ
number_hex n x = hex_of (number_bytes n x)

-- the address whose 32 digits the field is
unfoldable pub address_in : List ℕ → Option Address
address_in field = result_ok (address_read field)

-- the 32 digits of an address
abbrev pub address_hex : Address → List ℕ
address_hex address = hex_of (address_bytes address)

-- `-` for no bytes, else the digits of one byte or more, and of so many at most
unfoldable pub hex_field : ℕ → List ℕ → Option (List ℕ)
hex_field most field =
    if bytes_eq field (codes "-") then Some []
    else if (length field == 0) || nat_lt most (length field / 2) then None
    else unhex_exact (length field / 2) field

-- the field of a list of bytes
unfoldable pub hex_text : List ℕ → List ℕ
hex_text [] = codes "-"
hex_text (b ∷ bytes) = hex_of (b ∷ bytes)
