-- Laws and invariants of Hex: only proofs stand on them.
use Rattle.std.specs.Prelude.{ℕ, List, length, Bool, ◌&&◌, ◌==◌}
use Rattle.std.specs.List.{list_all}
use Rattle.mip_words.specs.Hex.{is_hex_digit}

-- a text of this many digits
abbrev pub is_hex_text : ℕ → List ℕ → Bool
is_hex_text n text = (length text == n) && list_all is_hex_digit text
