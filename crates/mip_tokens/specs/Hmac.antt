-- HMAC-SHA1. RFC 2104 section 2, with the block of 64 bytes of SHA-1
use Rattle.std.specs.Prelude.{ℕ, ◌-◌, List, ◌++◌, length, map, replicate, bit_xor, nat_lt, if◌then◌else◌}
use Rattle.std.specs.List.{flat_map}
use Rattle.std.specs.Borrow.{Bor}
use Rattle.sha1.specs.Sha1.{sha1}

-- zeros behind the key, up to a whole block
abbrev pub padded : List ℕ → List ℕ
padded key = key ++ replicate (64 - length key) 0

-- a key longer than a block is hashed first
abbrev pub block_key : List ℕ → List ℕ
block_key key = padded (if nat_lt 64 (length key) then sha1 key else key)

-- each byte of the key's block XOR a byte: 36 (hexadecimal) inside, 5c outside
abbrev pub pad : ℕ → List ℕ → List ℕ
pad byte key = map (λ b. bit_xor b byte) (block_key key)

-- the keyed hash of a text
unfoldable pub hmac_sha1 : List ℕ → List ℕ → List ℕ
hmac_sha1 key text = sha1 (pad 0x5c key ++ sha1 (pad 0x36 key ++ text))

-- a text that is given in parts
abbrev pub joined : List (Bor (List ℕ)) → List ℕ
joined parts = flat_map (λ part. part.now) parts
