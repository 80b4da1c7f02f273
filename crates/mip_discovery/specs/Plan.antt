-- The lifetimes that are left of a prefix. RFC 6275 section 10.6
use Rattle.std.specs.Prelude.{ℕ, ◌+◌, ◌-◌, ◌/◌, ◌==◌, if◌then◌else◌}

-- the seconds since a moment, a begun one counted whole
abbrev pub seconds_since : ℕ → ℕ → ℕ
seconds_since since now = (now - since + 999) / 1000

-- what is left of so many seconds, not below 0; the greatest number of 32 bits stands for no end
abbrev pub left_of : ℕ → ℕ → ℕ → ℕ
left_of seconds since now = if seconds == 4294967295 then seconds else seconds - seconds_since since now
