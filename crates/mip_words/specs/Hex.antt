-- Bytes as lower-case hexadecimal digits, two for each byte, the higher first.
use Rattle.std.specs.Prelude.{ℕ, ◌+◌, ◌-◌, ◌*◌, ◌/◌, ◌%◌, List, [], ◌∷◌, length, Bool, ◌&&◌, ◌||◌, ◌==◌, nat_lt, nat_le, if◌then◌else◌, Option, Some, None}
use Rattle.std.specs.List.{flat_map}

-- the digit of a number below 16
abbrev pub glyph : ℕ → ℕ
glyph d = if nat_lt d 10 then 48 + d else 87 + d

abbrev pub hex_pair : ℕ → List ℕ
hex_pair byte = glyph (byte / 16) ∷ glyph (byte % 16) ∷ []

-- the digits of a list of bytes
abbrev pub hex_of : List ℕ → List ℕ
hex_of bytes = flat_map hex_pair bytes

-- 0 to 9 and a to f
abbrev pub is_hex_digit : ℕ → Bool
is_hex_digit c = (nat_le 48 c && nat_le c 57) || (nat_le 97 c && nat_le c 102)

-- the number of a digit
abbrev pub digit_value : ℕ → ℕ
digit_value c = if nat_lt c 58 then c - 48 else c - 87

-- the byte of two digits
abbrev pub pair_value : ℕ → ℕ → Option ℕ
pair_value high low = if is_hex_digit high && is_hex_digit low then Some (16 * digit_value high + digit_value low) else None

abbrev pub paired : Option ℕ → Option (List ℕ) → Option (List ℕ)
paired (Some byte) (Some bytes) = Some (byte ∷ bytes)
paired (Some byte) None = None
paired None bytes = None

-- the bytes whose digits these are
abbrev pub unhex : List ℕ → Option (List ℕ)
unhex [] = Some []
unhex (high ∷ []) = None
unhex (high ∷ low ∷ rest) = paired (pair_value high low) (unhex rest)

-- the n bytes whose digits these are
abbrev pub unhex_exact : ℕ → List ℕ → Option (List ℕ)
unhex_exact n field = if length field == 2 * n then unhex field else None
