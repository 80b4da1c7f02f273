-- Each home counted once, at its last acceptance.
use Rattle.std.specs.Prelude.{ℕ, List, Bool, not, ◌&&◌, ◌==◌, is_some}
use Rattle.std.specs.List.{list_any}
use Rattle.mip_binding.specs.Acceptance.{Acceptance}
use Rattle.mip_binding.specs.Held.{floor}

-- one of these acceptances is of this home
abbrev pub any_of : ℕ → List Acceptance → Bool
any_of home xs = list_any (λ a. a.home == home) xs

-- none of those that came behind is of the home, and its sequence is kept
abbrev pub is_counted : List Acceptance → (now home : ℕ) → (more : List Acceptance) → Bool
is_counted xs now home more = not (any_of home more) && is_some (floor xs home now)
