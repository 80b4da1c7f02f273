-- Numbers written in bytes, the highest byte first, as every packet format here writes them.
-- `number_at` and `number_bytes` stay shut: what is needed of them is in proofs/Fields.
use Rattle.std.specs.Prelude.{ℕ, ◌<◌, List, drop, slice_index}
use Rattle.byteorder.specs.Endian.{big_number, big_bytes}

-- each item is a byte
abbrev pub IsBytes : List ℕ → Type 0
IsBytes bytes = (i : ℕ) → slice_index bytes i < 256

-- the number in the n bytes from a place
unfoldable pub number_at : ℕ → ℕ → List ℕ → ℕ
number_at n place bytes = big_number n (drop place bytes)

-- the n bytes of a number
unfoldable pub number_bytes : ℕ → ℕ → List ℕ
number_bytes n x = big_bytes n x
