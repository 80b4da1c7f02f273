-- The keyed hash of octets, and a message that ends with its authenticator, as the standards write them.
-- RFC 2104 section 2; RFC 6275 section 6.2.7
use Rattle.std.specs.Prelude.{◌≡◌, ℕ, ◌-◌, List, ◌++◌, length, map, take, replicate, bit_xor}
use Rattle.sha1.specs.Sha1.{sha1}

-- a key of 64 octets at most, with zeros behind it up to so many, each octet XOR this one
abbrev pub block_of : (octet : ℕ) → (key : List ℕ) → List ℕ
block_of octet key = map (λ b. bit_xor b octet) (key ++ replicate (64 - length key) 0)

-- the first octets of H(K XOR opad, H(K XOR ipad, text))
abbrev pub first_of_hash : (octets : ℕ) → (key text : List ℕ) → List ℕ
first_of_hash octets key text = take octets (sha1 (block_of 0x5c key ++ sha1 (block_of 0x36 key ++ text)))

-- a message in its parts: four octets, its checksum, all that follows, and an authenticator of twelve octets
pub record IsSealed (message : List ℕ) : Type 0 where
  pub front : List ℕ
  pub checksum : List ℕ
  pub rest : List ℕ
  pub authenticator : List ℕ
  pub whole : message ≡ front ++ (checksum ++ (rest ++ authenticator))
  pub four : length front ≡ 4
  pub two : length checksum ≡ 2
  pub twelve : length authenticator ≡ 12
