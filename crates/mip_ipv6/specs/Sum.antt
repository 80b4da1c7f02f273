-- The checksum of upper layers. RFC 8200 section 8.1
use Rattle.std.specs.Prelude.{ℕ, ◌+◌, ◌-◌, ◌*◌, ◌%◌, List, [], ◌∷◌, ◌++◌, length, take, drop, Bool, ◌==◌, if◌then◌else◌}
use Rattle.mip_words.specs.Numbers.{number_bytes}
use Rattle.mip_words.specs.Addresses.{address_bytes}
use Rattle.mip_words.specs.declared.address.Address.{Address}

-- the plain sum of the 16-bit words, a zero byte added where the length is odd
unfoldable pub word_sum : List ℕ → ℕ
word_sum [] = 0
word_sum (high ∷ []) = 256 * high
word_sum (high ∷ low ∷ rest) = 256 * high + low + word_sum rest

-- source, destination, length of the body, three zero bytes and the next header
abbrev pub pseudo_header : Address → Address → ℕ → ℕ → List ℕ
pseudo_header source destination size proto =
    address_bytes source ++ (address_bytes destination ++ (number_bytes 4 size ++ number_bytes 4 proto))

-- the sum of a body of this protocol, with the pseudo-header
unfoldable pub message_sum : Address → Address → ℕ → List ℕ → ℕ
message_sum source destination proto body = word_sum (pseudo_header source destination (length body) proto ++ body)

-- a checksum holds where the sum with it is a multiple of 65535
abbrev pub is_right_sum : Address → Address → ℕ → List ℕ → Bool
is_right_sum source destination proto body = message_sum source destination proto body % 65535 == 0

-- the body with a 16-bit number in place of the two bytes at a place
abbrev pub with_number_at : ℕ → ℕ → List ℕ → List ℕ
with_number_at place number body = take place body ++ (number_bytes 2 number ++ drop (place + 2) body)

-- the sum folded to 16 bits: only a sum of zero folds to zero
abbrev pub folded : ℕ → ℕ
folded total = if total == 0 then 0 else ((total - 1) % 65535 + 1)

-- what stands in the checksum's field at a place, which counts as zero in the sum
unfoldable pub checksum_of : Address → Address → ℕ → List ℕ → ℕ → ℕ
checksum_of source destination proto body place =
    65535 - folded (message_sum source destination proto (with_number_at place 0 body))
