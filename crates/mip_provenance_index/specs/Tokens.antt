-- Tokens as numbers.
use Rattle.std.specs.Prelude.{ℕ, List, Bool}
use Rattle.std.specs.Str.{bytes_eq}
use Rattle.mip_words.specs.Numbers.{number_at, number_bytes}

abbrev pub token_number : List ℕ → ℕ
token_number token = number_at 8 0 token

-- these are the eight bytes of a number
abbrev pub is_spelled : List ℕ → Bool
is_spelled token = bytes_eq (number_bytes 8 (token_number token)) token
