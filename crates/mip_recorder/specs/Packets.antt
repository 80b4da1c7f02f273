-- The packets of a history, in the order in which they are posted.
use Rattle.std.specs.Prelude.{◌≡◌, ℕ, List, [], length, Bool, true, ◌==◌, nat_lt, ◌&&◌, Option, Some, None, option_map, slice_get}
use Rattle.std.specs.List.{filter_map}
use Rattle.std.specs.Option.{option_and_then, option_map_or}
use Rattle.mip_words.specs.declared.token.Token.{Token}
use Rattle.mip_words.specs.EachAfter.{EachAfter}
use Rattle.mip_entries.specs.declared.entry.Entry.{Entry}
use Rattle.mip_entries.specs.declared.entry.Entry.TheVariants as entries
use Rattle.mip_provenance_index.specs.Stands.{number_posted}

-- the bytes that an entry posts
abbrev pub bytes_posted : Entry → Option (List ℕ)
bytes_posted (entries.Sent number node shielded packet) = Some packet
bytes_posted (entries.Injected number outsider link packet) = Some packet
bytes_posted _ = None

-- the number of the packet that an entry says was heard or handed over
abbrev pub number_reached : Entry → Option ℕ
number_reached (entries.Heard number outsider) = Some number
number_reached (entries.Handed number node) = Some number
number_reached _ = None

-- an entry comes next where so many packets were posted: a packet takes the next number, and is heard and handed over when it was posted
abbrev pub comes_next : ℕ → Entry → Bool
comes_next count e =
    option_map_or (λ number. number == count) (number_posted e) true && option_map_or (λ number. nat_lt number count) (number_reached e) true

abbrev pub ComesNext : List Entry → Entry → Type 0
ComesNext front e = comes_next (length (filter_map number_posted front)) e ≡ true

-- each entry came next
abbrev pub IsInOrder : List Entry → Type 0
IsInOrder past = EachAfter ComesNext [] past

-- the token of packet k, where there is one and it is a test
abbrev pub token_at : List (Option Token) → ℕ → Option (List ℕ)
token_at tokens k = option_and_then (option_map (λ (t : Token). t.0)) (slice_get tokens k)

-- the token of the packet that an entry says was heard
abbrev pub heard_at : List (Option Token) → Entry → Option (List ℕ)
heard_at tokens (entries.Heard number outsider) = token_at tokens number
heard_at tokens _ = None
