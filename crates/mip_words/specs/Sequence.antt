-- The order of 16-bit sequence numbers, which wraps.
use Rattle.std.specs.Prelude.{ℕ, ◌+◌, ◌-◌, ◌%◌, Bool, ◌&&◌, nat_lt}

-- how far the new number is ahead of the last one, counting round
abbrev pub step_from : ℕ → ℕ → ℕ
step_from last new = (new + 65536 - last) % 65536

-- the new number is 1 to 32767 ahead of the last one. RFC 6275 section 9.5.1
abbrev pub is_after : ℕ → ℕ → Bool
is_after new last = nat_lt 0 (step_from last new) && nat_lt (step_from last new) 32768
