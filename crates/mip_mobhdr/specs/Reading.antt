-- Reading a message: what it says, or the first fault that applies. RFC 6275 section 6.1
use Rattle.std.specs.Prelude.{ℕ, ◌+◌, ◌*◌, ◌/◌, ◌%◌, List, length, take, drop, slice_index, Bool, not, ◌||◌, ◌==◌, nat_lt, if◌then◌else◌, Result, Ok, Err}
use Rattle.mip_words.specs.Numbers.{number_at}
use Rattle.mip_words.specs.Addresses.{address_at}
use Rattle.mip_words.specs.Steps.{◌>>=◌}
use Rattle.mip_words.specs.declared.address.Address.{Address}
use Rattle.mip_ipv6.specs.Sum.{is_right_sum}
use Rattle.mip_mobhdr.specs.OptionValues.{Values}
use Rattle.mip_mobhdr.specs.OptionReading.{options_of}
use Rattle.mip_mobhdr.specs.declared.fault.Fault.{Fault}
use Rattle.mip_mobhdr.specs.declared.fault.Fault.TheVariants as faults
use Rattle.mip_mobhdr.specs.Said.{Said}
use Rattle.mip_mobhdr.specs.Said.Said.{Refresh, HomeInit, CareofInit, HomeTest, CareofTest, Update, Acknowledgement, Error}

-- the least Header Len of a type, in units of 8 bytes behind the first 8
abbrev pub least_of : ℕ → ℕ
least_of type =
    if type == 0 then 0
    else if type == 1 || type == 2 || type == 5 || type == 6 then 1
    else 2

-- a bit of a flag byte
abbrev pub has_bit : ℕ → ℕ → Bool
has_bit worth byte = byte / worth % 2 == 1

-- the type, once everything before the fields has been tested
unfoldable pub type_in : Address → Address → List ℕ → Result ℕ Fault
type_in source destination body =
    if nat_lt (length body) 8 || not (length body == 8 + 8 * slice_index body 1) then Err faults.Size
    else if not (is_right_sum source destination 135 body) then Err faults.Checksum
    else if nat_lt 7 (slice_index body 2) then Err (faults.Unknown (slice_index body 2))
    else if not (slice_index body 0 == 59) then Err faults.Proto
    else if nat_lt (slice_index body 1) (least_of (slice_index body 2)) then Err faults.HeaderLen
    else Ok (slice_index body 2)

abbrev pub or_fault : Result Values ℕ → Result Values Fault
or_fault (Ok v) = Ok v
or_fault (Err place) = Err (faults.Option place)

-- the options from a place on
abbrev pub options_in : ℕ → List ℕ → Result Values Fault
options_in start body = or_fault (options_of start body)

unfoldable pub refresh_of : List ℕ → Result Said Fault
refresh_of body = do
  o ← options_in 8 body
  Ok (Refresh o)

unfoldable pub home_init_of : List ℕ → Result Said Fault
home_init_of body = do
  o ← options_in 16 body
  Ok (HomeInit (number_at 8 8 body) o)

unfoldable pub careof_init_of : List ℕ → Result Said Fault
careof_init_of body = do
  o ← options_in 16 body
  Ok (CareofInit (number_at 8 8 body) o)

unfoldable pub home_test_of : List ℕ → Result Said Fault
home_test_of body = do
  o ← options_in 24 body
  Ok (HomeTest (number_at 2 6 body) (number_at 8 8 body) (take 8 (drop 16 body)) o)

unfoldable pub careof_test_of : List ℕ → Result Said Fault
careof_test_of body = do
  o ← options_in 24 body
  Ok (CareofTest (number_at 2 6 body) (number_at 8 8 body) (take 8 (drop 16 body)) o)

-- A, H, L and K are the highest bits of byte 8
unfoldable pub update_of : List ℕ → Result Said Fault
update_of body = do
  o ← options_in 12 body
  let flag : ℕ → Bool = λ worth. has_bit worth (slice_index body 8) in
      Ok (Update (number_at 2 6 body) (flag 128) (flag 64) (flag 32) (flag 16) (number_at 2 10 body) o)

-- K is the highest bit of byte 7
unfoldable pub acknowledgement_of : List ℕ → Result Said Fault
acknowledgement_of body = do
  o ← options_in 12 body
  Ok (Acknowledgement (slice_index body 6) (has_bit 128 (slice_index body 7)) (number_at 2 8 body) (number_at 2 10 body) o)

unfoldable pub error_of : List ℕ → Result Said Fault
error_of body = do
  o ← options_in 24 body
  Ok (Error (slice_index body 6) (address_at 8 body) o)

unfoldable pub fields_of : ℕ → List ℕ → Result Said Fault
fields_of type body =
    if type == 0 then refresh_of body
    else if type == 1 then home_init_of body
    else if type == 2 then careof_init_of body
    else if type == 3 then home_test_of body
    else if type == 4 then careof_test_of body
    else if type == 5 then update_of body
    else if type == 6 then acknowledgement_of body
    else error_of body

-- the body of a packet from a source to a destination
unfoldable pub message_of : Address → Address → List ℕ → Result Said Fault
message_of source destination body = do
  type ← type_in source destination body
  fields_of type body
