-- What a reader and a writer of ICMPv6 messages both name.
--
--    0                   1                   2                   3
--    0 1 2 3 4 5 6 7 8 9 0 1 2 3 4 5 6 7 8 9 0 1 2 3 4 5 6 7 8 9 0 1
--   |     Type      |     Code      |          Checksum             |
--
-- RFC 4443 section 2.1
use Rattle.std.specs.Prelude.{ℕ, ◌/◌, ◌%◌, List, Bool, ◌||◌, ◌==◌, if◌then◌else◌}
use Rattle.mip_words.specs.Numbers.{number_at}

-- the fewest bytes of a type
abbrev pub least_size : ℕ → ℕ
least_size type = if type == 134 then 16 else 8

abbrev pub is_known : ℕ → Bool
is_known type = type == 4 || type == 134 || type == 144 || type == 145 || type == 146 || type == 147

abbrev pub identifier_at : List ℕ → ℕ
identifier_at body = number_at 2 4 body

-- bit 0x20 of a byte. RFC 6275 section 7.1
abbrev pub is_agent_flag : ℕ → Bool
is_agent_flag flags = flags / 32 % 2 == 1
