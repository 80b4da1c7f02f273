-- Moments as C gives them.
use Rattle.std.specs.Prelude.{ℕ, ◌^◌, Bool, not, ◌||◌, nat_lt}

-- a moment before that of the last call, or too far off
abbrev pub is_late : ℕ → ℕ → Bool
is_late last now = nat_lt now last || not (nat_lt now (2 ^ 62))
