-- What the last acceptance of a home leaves, where bindings have one number. RFC 6275 section 9.5.1
use Rattle.std.specs.Prelude.{◌≡◌, ℕ, List, Option, Some, None, option_and_then, not, ◌&&◌, nat_lt, ◌==◌, if◌then◌else◌}
use Rattle.std.specs.List.{AllByRecursion}
use Rattle.mip_words.specs.Last.{last_where}
use Rattle.mip_binding.specs.Acceptance.{Acceptance}
use Rattle.mip_binding.specs.AcceptanceLaws.{kept_until_of}
use Rattle.mip_binding.specs.Held.{held, floor}

-- the last acceptance of a home
abbrev pub last_of : ℕ → List Acceptance → Option Acceptance
last_of home xs = last_where (λ a. a.home == home) xs

-- its care-of address, to its end, where it is no deletion
abbrev pub careof_to_its_end : ℕ → ℕ → Acceptance → Option ℕ
careof_to_its_end home now a = if not (a.careof == home) && nat_lt now a.end then Some a.careof else None

-- its sequence, for as long as that is kept
abbrev pub sequence_for_a_while : ℕ → Acceptance → Option ℕ
sequence_for_a_while now a = if nat_lt now (kept_until_of a) then Some a.sequence else None

-- where each acceptance has number 0: what is held is of the last acceptance of the home, and so is the sequence that is kept
pub record IsOfTheLast (home now : ℕ) : Type 0 where
  pub careof : (xs : List Acceptance) → AllByRecursion (λ a. a.number ≡ 0) xs → held xs home now ≡ option_and_then (careof_to_its_end home now) (last_of home xs)
  pub sequence : (xs : List Acceptance) → AllByRecursion (λ a. a.number ≡ 0) xs → floor xs home now ≡ option_and_then (sequence_for_a_while now) (last_of home xs)
