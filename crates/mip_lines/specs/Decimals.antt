-- Decimal numbers, without sign and without leading zeros.
use Rattle.std.specs.Prelude.{ℕ, ◌&&◌, nat_le, List, Option, Some, None, if◌then◌else◌, decimal}
use Rattle.std.specs.Str.{bytes_eq}
use Rattle.std.specs.Str.Parse.{digits_value}

-- the number from low to high whose digits the field is
unfoldable pub number_in : ℕ → ℕ → List ℕ → Option ℕ
number_in low high field =
    let n = digits_value 10 field in
    if bytes_eq (decimal n) field && (nat_le low n && nat_le n high) then Some n else None
