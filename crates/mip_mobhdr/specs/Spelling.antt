-- How a message is spelled: every spelling that a receiver accepts, and the canonical one.
-- RFC 6275 section 6.1
--
--   0              1              2              3              4              5
--   Payload Proto  Header Len     MH Type        Reserved       Checksum
--   6 on: the fields of the type, then mobility options
use Rattle.std.specs.Prelude.{◌≡◌, ℕ, ◌+◌, ◌-◌, ◌*◌, ◌/◌, ◌<◌, ◌≤◌, List, [], ◌∷◌, ◌++◌, length, take, drop, slice_index, Bool, IsTrue, IfSome, if◌then◌else◌}
use Rattle.mip_words.specs.Numbers.{number_at, number_bytes}
use Rattle.mip_words.specs.Addresses.{address_at, address_bytes}
use Rattle.mip_words.specs.declared.address.Address.{Address}
use Rattle.mip_ipv6.specs.Sum.{is_right_sum, with_number_at, checksum_of}
use Rattle.mip_mobhdr.specs.OptionValues.{Values}
use Rattle.mip_mobhdr.specs.OptionSpelling.{IsSpelled}
use Rattle.mip_mobhdr.specs.OptionWriting.{canonical}
use Rattle.mip_mobhdr.specs.Said.{Said}
use Rattle.mip_mobhdr.specs.Said.Said.{Refresh, HomeInit, CareofInit, HomeTest, CareofTest, Update, Acknowledgement, Error}
use Rattle.mip_mobhdr.specs.Reading.{least_of, has_bit}

-- the MH Type
abbrev pub type_of : Said → ℕ
type_of (Refresh o) = 0
type_of (HomeInit c o) = 1
type_of (CareofInit c o) = 2
type_of (HomeTest i c t o) = 3
type_of (CareofTest i c t o) = 4
type_of (Update s a h l k t o) = 5
type_of (Acknowledgement s k q t o) = 6
type_of (Error s h o) = 7

-- the fields at their places; reserved bits are not named, so they may be anything
abbrev pub IsFields : Said → List ℕ → Type 0
IsFields (Refresh o) body = IsSpelled o (drop 8 body)
IsFields (HomeInit c o) body = (number_at 8 8 body ≡ c) × IsSpelled o (drop 16 body)
IsFields (CareofInit c o) body = (number_at 8 8 body ≡ c) × IsSpelled o (drop 16 body)
IsFields (HomeTest i c t o) body =
    (number_at 2 6 body ≡ i) × (number_at 8 8 body ≡ c) × (take 8 (drop 16 body) ≡ t) × IsSpelled o (drop 24 body)
IsFields (CareofTest i c t o) body =
    (number_at 2 6 body ≡ i) × (number_at 8 8 body ≡ c) × (take 8 (drop 16 body) ≡ t) × IsSpelled o (drop 24 body)
IsFields (Update s a h l k t o) body =
    (number_at 2 6 body ≡ s) × (has_bit 128 (slice_index body 8) ≡ a) × (has_bit 64 (slice_index body 8) ≡ h)
    × (has_bit 32 (slice_index body 8) ≡ l) × (has_bit 16 (slice_index body 8) ≡ k) × (number_at 2 10 body ≡ t)
    × IsSpelled o (drop 12 body)
IsFields (Acknowledgement s k q t o) body =
    (slice_index body 6 ≡ s) × (has_bit 128 (slice_index body 7) ≡ k) × (number_at 2 8 body ≡ q)
    × (number_at 2 10 body ≡ t) × IsSpelled o (drop 12 body)
IsFields (Error s h o) body = (slice_index body 6 ≡ s) × (address_at 8 body ≡ h) × IsSpelled o (drop 24 body)

-- this body of a packet from a source to a destination spells this message
pub record IsMessage (source destination : Address) (m : Said) (body : List ℕ) : Type 0 where
  pub long : 8 ≤ length body
  pub size : length body ≡ 8 + 8 * slice_index body 1
  pub sum : IsTrue (is_right_sum source destination 135 body)
  pub type : slice_index body 2 ≡ type_of m
  pub proto : slice_index body 0 ≡ 59
  pub least_len : least_of (type_of m) ≤ slice_index body 1
  pub fields : IsFields m body

-- the options of a message
abbrev pub options_said : Said → Values
options_said (Refresh o) = o
options_said (HomeInit c o) = o
options_said (CareofInit c o) = o
options_said (HomeTest i c t o) = o
options_said (CareofTest i c t o) = o
options_said (Update s a h l k t o) = o
options_said (Acknowledgement s k q t o) = o
options_said (Error s h o) = o

-- a binding number that is to be written is below 8
abbrev pub HasNumber : Said → Type 0
HasNumber m = IfSome (options_said m).number (λ n. n < 8)

-- a flag that is worth this much
abbrev pub flag : ℕ → Bool → ℕ
flag worth b = if b then worth else 0

-- the fields from byte 6 on, with zero in reserved bits
abbrev pub field_bytes : Said → List ℕ
field_bytes (Refresh o) = 0 ∷ 0 ∷ []
field_bytes (HomeInit c o) = 0 ∷ 0 ∷ number_bytes 8 c
field_bytes (CareofInit c o) = 0 ∷ 0 ∷ number_bytes 8 c
field_bytes (HomeTest i c t o) = number_bytes 2 i ++ (number_bytes 8 c ++ t)
field_bytes (CareofTest i c t o) = number_bytes 2 i ++ (number_bytes 8 c ++ t)
field_bytes (Update s a h l k t o) =
    number_bytes 2 s ++ ((flag 128 a + flag 64 h + flag 32 l + flag 16 k) ∷ 0 ∷ number_bytes 2 t)
field_bytes (Acknowledgement s k q t o) = s ∷ flag 128 k ∷ (number_bytes 2 q ++ number_bytes 2 t)
field_bytes (Error s h o) = s ∷ 0 ∷ address_bytes h

-- fields and options
unfoldable pub rest_bytes : Said → List ℕ
rest_bytes m = field_bytes m ++ canonical (6 + length (field_bytes m)) (options_said m)

-- the canonical spelling, with zero in the checksum's field
unfoldable pub unsummed : Said → List ℕ
unsummed m = 59 ∷ ((6 + length (rest_bytes m)) / 8 - 1) ∷ type_of m ∷ 0 ∷ 0 ∷ 0 ∷ rest_bytes m

-- the canonical spelling
unfoldable pub message_bytes : Address → Address → Said → List ℕ
message_bytes source destination m = with_number_at 4 (checksum_of source destination 135 (unsummed m) 4) (unsummed m)
