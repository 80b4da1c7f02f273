-- Reading the options of a message, from the place where they begin to its end: their values,
-- or the place of the first one that may not stand where it does.
use Rattle.std.specs.Prelude.{◌≡◌, ℕ, zero, suc, ◌+◌, List, [], ◌∷◌, length, drop, take, slice_index, Bool, true, false, not, ◌||◌, ◌&&◌, ◌==◌, nat_lt, if◌then◌else◌, Some, is_some, Result, Ok, Err}
use Rattle.mip_words.specs.Numbers.{number_at}
use Rattle.mip_words.specs.Addresses.{address_at}
use Rattle.mip_words.specs.Steps.{◌>>=◌}
use Rattle.mip_mobhdr.specs.declared.bad_option.BadOption.{BadOption}
use Rattle.mip_mobhdr.specs.OptionValues.{Values, nothing}

-- the lengths of RFC 6275 sections 6.2.4 to 6.2.7; padding, type 200 and unknown types have any
abbrev pub is_length_of : ℕ → ℕ → Bool
is_length_of type size =
    if type == 2 then size == 2
    else if type == 3 then size == 16
    else if type == 4 then size == 4
    else if type == 5 then size == 12
    else true

-- an option of this type came before
abbrev pub is_seen : ℕ → Values → Bool
is_seen type v =
    if type == 2 then is_some v.advice
    else if type == 3 then is_some v.alternate
    else if type == 4 then is_some v.nonces
    else if type == 5 then is_some v.authorization
    else false

-- The bytes behind a type 200, the first of them their count, are a binding number: a count of 2, and a number below 8.
abbrev pub is_number : List ℕ → Bool
is_number rest = (slice_index rest 0 == 2) && nat_lt (number_at 2 1 rest) 8

-- the first binding number counts; any other option of its type is passed over, as unknown types are
abbrev pub is_first_number : Values → List ℕ → Bool
is_first_number v rest = not (is_some v.number) && is_number rest

-- the values with those of an option; rest are the bytes behind its type, the first of them its length
unfoldable pub with_value : ℕ → Values → List ℕ → Values
with_value type v rest =
    if type == 2 then record v { advice = Some (number_at 2 1 rest) }
    else if type == 3 then record v { alternate = Some (address_at 1 rest) }
    else if type == 4 then record v { nonces = Some (record { home = number_at 2 1 rest; careof = number_at 2 3 rest }) }
    else if type == 5 then record v { authorization = Some (take 12 (drop 1 rest)) }
    else if (type == 200) && is_first_number v rest then record v { number = Some (number_at 2 1 rest) }
    else v

-- One option: the values with it, and how many of the bytes behind its type it takes. It is refused where it
-- runs past the end, has a wrong length, is a second one, or is an authorization with a byte behind it.
unfoldable pub option_at : ℕ → ℕ → Values → List ℕ → Result (Values × ℕ) ℕ
option_at place type v rest =
    if type == 0 then Ok (v, 0)
    else if nat_lt (length rest) 1 || nat_lt (length rest) (1 + slice_index rest 0) then Err place
    else if not (is_length_of type (slice_index rest 0)) then Err place
    else if is_seen type v then Err place
    else if type == 5 && nat_lt 13 (length rest) then Err place
    else Ok (with_value type v rest, 1 + slice_index rest 0)

-- the bytes from a place on, of which some are still a part of the option before it
unfoldable pub options_after : ℕ → ℕ → Values → List ℕ → Result Values ℕ
options_after taken place v [] = Ok v
options_after (suc n) place v (b ∷ rest) = options_after n (place + 1) v rest
options_after zero place v (type ∷ rest) = do
  x ← option_at place type v rest
  options_after x.1 (place + 1) x.0 rest

unfoldable pub options_of : ℕ → List ℕ → Result Values ℕ
options_of start message = options_after 0 start nothing (drop start message)

-- what a function returned, seen by a view, is what a reading gives
abbrev pub GivesAt : {X Y : Type 0} → (X → Y) → Result X BadOption → Result Y ℕ → Type 0
GivesAt view (Ok x) read = read ≡ Ok (view x)
GivesAt view (Err e) read = read ≡ Err e.place
