-- Which nonces are valid at a moment, and which of them an index names. RFC 6275 sections 5.2.2 and 5.2.5
use Rattle.std.specs.Prelude.{◌≡◌, ℕ, ◌+◌, ◌-◌, ◌/◌, ◌%◌, ◌<◌, ◌≤◌, Option, Some, None, nat_lt, nat_le, ◌&&◌, if◌then◌else◌}
use Rattle.mip_words.specs.Constants.{nonce_period, valid_nonces}

-- the number of the newest nonce at a moment in milliseconds: each serves 30 seconds
abbrev pub current_of : ℕ → ℕ
current_of now = now / nonce_period

-- the newest nonce and the seven before it are valid
abbrev pub IsValidAt : ℕ → ℕ → Type 0
IsValidAt now n = (n ≤ current_of now) × (current_of now < n + valid_nonces)

-- a message names a nonce by the last 16 bits of its number
abbrev pub index_of : ℕ → ℕ
index_of n = n % 65536

-- this is the valid nonce that the index names
abbrev pub IsNamed : ℕ → ℕ → ℕ → Type 0
IsNamed now index n = IsValidAt now n × (index_of n ≡ index)

-- how many numbers before the newest one the index is, counting round; an index has 16 bits
abbrev pub behind : ℕ → ℕ → ℕ
behind now index = (index_of (current_of now) + 65536 - index_of index) % 65536

-- the valid nonce that an index names, if there is one
unfoldable pub number_named : ℕ → ℕ → Option ℕ
number_named now index =
    if nat_lt (behind now index) valid_nonces && nat_le (behind now index) (current_of now)
    then Some (current_of now - behind now index) else None
