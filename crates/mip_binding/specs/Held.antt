-- What is held for a home address after a list of acceptances, oldest first: a care-of address under a
-- number to the end of its binding, and the last sequence number for a while longer. RFC 6275 sections
-- 9.5.1 and 9.6
use Rattle.std.specs.Prelude.{map, false, ℕ, List, Option, Some, None, option_map, is_some, length, Bool, not, ◌&&◌, nat_lt, ◌==◌, if◌then◌else◌}
use Rattle.std.specs.List.{list_any}
use Rattle.mip_words.specs.Last.{last_where}
use Rattle.mip_binding.specs.Acceptance.{Acceptance, Binding}
use Rattle.mip_binding.specs.Homes.{HomeKept, home_after, homes, kept_homes}

-- the binding stands: its care-of address is not home, and its end lies ahead
abbrev pub is_standing : ℕ → ℕ → Binding → Bool
is_standing home now b = not (b.careof == home) && nat_lt now b.end

-- it stands under this number, or at this care-of address
abbrev pub stands_under : ℕ → ℕ → ℕ → Binding → Bool
stands_under home number now b = is_standing home now b && (b.number == number)

abbrev pub stands_at : ℕ → ℕ → ℕ → Binding → Bool
stands_at home now careof b = is_standing home now b && (b.careof == careof)

-- the care-of address of the last binding that passes a test
abbrev pub careof_where : (Binding → Bool) → Option HomeKept → Option ℕ
careof_where p None = None
careof_where p (Some kept) = option_map (λ b. b.careof) (last_where p kept.live)

abbrev pub sequence_in : ℕ → Option HomeKept → Option ℕ
sequence_in now None = None
sequence_in now (Some kept) = if nat_lt now kept.until then Some kept.sequence else None

abbrev pub any_lives : (Binding → Bool) → Option HomeKept → Bool
any_lives p None = false
any_lives p (Some kept) = list_any p kept.live

-- the care-of address that is held for a home at a moment: of those that stand, the one accepted last
unfoldable pub held : List Acceptance → ℕ → ℕ → Option ℕ
held xs home now = careof_where (is_standing home now) (home_after home xs)

-- the care-of address that is held for a home under a number
unfoldable pub held_under : List Acceptance → ℕ → ℕ → ℕ → Option ℕ
held_under xs home number now = careof_where (stands_under home number now) (home_after home xs)

-- a care-of address is held for a home, under some number
unfoldable pub holds : List Acceptance → ℕ → ℕ → ℕ → Bool
holds xs home now careof = any_lives (stands_at home now careof) (home_after home xs)

-- the sequence that a new update for a home must come after
unfoldable pub floor : List Acceptance → ℕ → ℕ → Option ℕ
floor xs home now = sequence_in now (home_after home xs)

-- the homes that have a sequence kept, in order
abbrev pub homes_with_floor : List Acceptance → ℕ → List ℕ
homes_with_floor xs now = map (λ k. k.home) (kept_homes now (homes xs))

-- as many homes as there is room for have a sequence kept, and this one has none
abbrev pub is_full : ℕ → List Acceptance → ℕ → ℕ → Bool
is_full room xs home now = not (is_some (floor xs home now)) && (length (homes_with_floor xs now) == room)
