-- What a home that is held with a care-of address is asked by: the numbers of the bindings that a node made of it.
use Rattle.std.specs.Prelude.{ℕ, Bool, false, ◌==◌, Option, Some, None}
use Rattle.mip_past.specs.declared.made.Made.{Made}

abbrev pub is_careof : (careof : ℕ) → Option ℕ → Bool
is_careof careof None = false
is_careof careof (Some held) = held == careof

-- under the number of this binding the care-of address is held
abbrev pub holds_by : (under : ℕ → Option ℕ) → (careof : ℕ) → Option Made → Bool
holds_by under careof None = false
holds_by under careof (Some made) = is_careof careof (under made.number)
