-- The canonical spelling of a message spells it.
use Rattle.std.proofs.Common.{◌≡◌, ℕ, ◌+◌, ◌-◌, ◌*◌, ◌/◌, ◌%◌, ◌≤◌, List, ◌∷◌, ◌++◌, length, take, drop, refl, sym, ap, subst, ◌∙◌, Bool, true, false, arith, length-append}
use Rattle.std.proofs.lemmas.List.{take_at, drop_at}
use Rattle.mip_words.specs.Numbers.{number_at, number_bytes}
use Rattle.mip_words.specs.declared.address.Address.{Address}
use Rattle.mip_words.proofs.Fields.{length-number_bytes, number_at-number_bytes}
use Rattle.mip_ipv6.specs.Sum.{checksum_of}
use Rattle.mip_ipv6.proofs.Sums.{checksum_whole}
use Rattle.mip_mobhdr.specs.OptionValues.{Values}
use Rattle.mip_mobhdr.specs.OptionSpelling.{IsSpelled}
use Rattle.mip_mobhdr.specs.OptionWriting.{canonical}
use Rattle.mip_mobhdr.proofs.OptionsCanonical.{canonical_whole}
use Rattle.mip_mobhdr.specs.Said.{Said}
use Rattle.mip_mobhdr.specs.Said.Said.{Refresh, HomeInit, CareofInit, HomeTest, CareofTest, Update, Acknowledgement, Error}
use Rattle.mip_mobhdr.specs.Reading.{least_of, has_bit}
use Rattle.mip_mobhdr.specs.Spelling.{type_of, IsFields, IsMessage, options_said, flag, field_bytes, rest_bytes, unsummed, message_bytes}
use Rattle.mip_mobhdr.specs.SpellingLaws.{HasWidths, WritesOptions}

-- each flag of four is read back from their byte
record FourFlags (a h l k : Bool) (byte : ℕ) : Type 0 where
  first : has_bit 128 byte ≡ a
  second : has_bit 64 byte ≡ h
  third : has_bit 32 byte ≡ l
  fourth : has_bit 16 byte ≡ k

flags_read : (a h l k : Bool) → FourFlags a h l k (flag 128 a + flag 64 h + flag 32 l + flag 16 k)
flags_read true true true true = record { first = refl; second = refl; third = refl; fourth = refl }
flags_read true true true false = record { first = refl; second = refl; third = refl; fourth = refl }
flags_read true true false true = record { first = refl; second = refl; third = refl; fourth = refl }
flags_read true true false false = record { first = refl; second = refl; third = refl; fourth = refl }
flags_read true false true true = record { first = refl; second = refl; third = refl; fourth = refl }
flags_read true false true false = record { first = refl; second = refl; third = refl; fourth = refl }
flags_read true false false true = record { first = refl; second = refl; third = refl; fourth = refl }
flags_read true false false false = record { first = refl; second = refl; third = refl; fourth = refl }
flags_read false true true true = record { first = refl; second = refl; third = refl; fourth = refl }
flags_read false true true false = record { first = refl; second = refl; third = refl; fourth = refl }
flags_read false true false true = record { first = refl; second = refl; third = refl; fourth = refl }
flags_read false true false false = record { first = refl; second = refl; third = refl; fourth = refl }
flags_read false false true true = record { first = refl; second = refl; third = refl; fourth = refl }
flags_read false false true false = record { first = refl; second = refl; third = refl; fourth = refl }
flags_read false false false true = record { first = refl; second = refl; third = refl; fourth = refl }
flags_read false false false false = record { first = refl; second = refl; third = refl; fourth = refl }

flag_read : (k : Bool) → has_bit 128 (flag 128 k) ≡ k
flag_read true = refl
flag_read false = refl

-- the message with any number for its checksum
abbrev filled : ℕ → ℕ → Said → List ℕ
filled u sum m = 59 ∷ u ∷ type_of m ∷ 0 ∷ (number_bytes 2 sum ++ rest_bytes m)

-- a token and the options behind it
test_fields : (t tail : List ℕ) (o : Values) (body : List ℕ) → length t ≡ 8 → drop 16 body ≡ t ++ tail → drop 24 body ≡ drop 8 (drop 16 body) → IsSpelled o tail → (take 8 (drop 16 body) ≡ t) × IsSpelled o (drop 24 body)
test_fields t tail o body long here behind is =
    (ap (take 8) here ∙ take_at t tail 8 long, subst (IsSpelled o) (sym (behind ∙ ap (drop 8) here ∙ drop_at t tail 8 long)) is)

fields_written : (u sum : ℕ) (m : Said) → HasWidths m → WritesOptions m → IsFields m (filled u sum m)
unfolding rest_bytes number_bytes number_at
fields_written u sum (Refresh o) fits is = is
fields_written u sum (HomeInit c o) fits is = (number_at-number_bytes 8 c (canonical 16 o) fits, is)
fields_written u sum (CareofInit c o) fits is = (number_at-number_bytes 8 c (canonical 16 o) fits, is)
fields_written u sum (HomeTest i c t o) (i_fits, c_fits, long) is =
    let tail = canonical (6 + length (field_bytes (HomeTest i c t o))) o in
    let both = test_fields t tail o (filled u sum (HomeTest i c t o)) long refl refl is in
    (number_at-number_bytes 2 i (number_bytes 8 c ++ (t ++ tail)) i_fits, number_at-number_bytes 8 c (t ++ tail) c_fits, both.0, both.1)
fields_written u sum (CareofTest i c t o) (i_fits, c_fits, long) is =
    let tail = canonical (6 + length (field_bytes (CareofTest i c t o))) o in
    let both = test_fields t tail o (filled u sum (CareofTest i c t o)) long refl refl is in
    (number_at-number_bytes 2 i (number_bytes 8 c ++ (t ++ tail)) i_fits, number_at-number_bytes 8 c (t ++ tail) c_fits, both.0, both.1)
fields_written u sum (Update s a h l k t o) (s_fits, t_fits) is =
    let f = flags_read a h l k in
    let byte = flag 128 a + flag 64 h + flag 32 l + flag 16 k in
    (number_at-number_bytes 2 s (byte ∷ 0 ∷ (number_bytes 2 t ++ canonical 12 o)) s_fits, f.first, f.second, f.third, f.fourth, number_at-number_bytes 2 t (canonical 12 o) t_fits, is)
fields_written u sum (Acknowledgement s k q t o) (q_fits, t_fits) is =
    (refl, flag_read k, number_at-number_bytes 2 q (number_bytes 2 t ++ canonical 12 o) q_fits, number_at-number_bytes 2 t (canonical 12 o) t_fits, is)
fields_written u sum (Error s h o) fits is =
    (refl, ap (λ (x : ℕ). let a : Address = record { 0 = x } in a) (number_at-number_bytes 16 h.0 (canonical 24 o) fits), is)

-- the fields are about as long as the type's least Header Len says
record Room (m : Said) : Type 0 where
  least_room : 8 * least_of (type_of m) + 1 ≤ 6 + length (field_bytes m)
  short : length (field_bytes m) ≤ 18

room_of : (m : Said) → HasWidths m → Room m
unfolding number_bytes
room_of (Refresh o) fits = record { least_room = omega arith; short = omega arith }
room_of (HomeInit c o) fits = record { least_room = omega arith; short = omega arith }
room_of (CareofInit c o) fits = record { least_room = omega arith; short = omega arith }
room_of (HomeTest i c t o) (i_fits, c_fits, long) = record { least_room = omega (arith, long); short = omega (arith, long) }
room_of (CareofTest i c t o) (i_fits, c_fits, long) = record { least_room = omega (arith, long); short = omega (arith, long) }
room_of _ fits = record { least_room = omega arith; short = omega arith }

pub field_short : (m : Said) → HasWidths m → length (field_bytes m) ≤ 18
field_short m fits = (room_of m fits).short

-- the whole message is a multiple of 8 bytes, and as long as its type needs
record Sized (m : Said) (size : ℕ) : Type 0 where
  whole : 6 + size ≡ 8 + 8 * ((6 + size) / 8 - 1)
  least : least_of (type_of m) ≤ (6 + size) / 8 - 1
  some : 8 ≤ 6 + size

sizes : (m : Said) (size f k : ℕ) → f ≤ size → (6 + size) % 8 ≡ 0 → 8 * least_of (type_of m) + 1 ≤ 6 + f → Sized m size
sizes m size f k long whole room = record { whole = omega arith; least = omega arith; some = omega arith }

sized_of : (m : Said) → HasWidths m → Sized m (length (rest_bytes m))
unfolding rest_bytes
sized_of m fits =
    let front = field_bytes m in
    let tail = canonical (6 + length front) (options_said m) in
    let long : length (front ++ tail) ≡ length front + length tail = length-append front tail in
    let even = canonical_whole (6 + length front) (options_said m) in
    sizes m (length (front ++ tail)) (length front) 0 (omega (arith, long)) (omega (arith, long, even)) (room_of m fits).least_room

-- the canonical spelling spells the message
pub message_canonical : (source destination : Address) (m : Said) → HasWidths m → WritesOptions m → IsMessage source destination m (message_bytes source destination m)
unfolding message_bytes unsummed
message_canonical source destination m fits options =
    let u = (6 + length (rest_bytes m)) / 8 - 1 in
    let size = sized_of m fits in
    let sum = checksum_of source destination 135 (unsummed m) 4 in
    let long : length (filled u sum m) ≡ 6 + length (rest_bytes m) = omega (arith, length-append (number_bytes 2 sum) (rest_bytes m), length-number_bytes 2 sum) in
    record {
      long = omega (arith, long, size.some);
      size = long ∙ size.whole;
      sum = checksum_whole source destination 135 4 (unsummed m) refl (omega arith);
      type = refl;
      proto = refl;
      least_len = size.least;
      fields = fields_written u sum m fits options;
    }
