-- The events of a run that lie wholly before a place of its history.
use Rattle.std.specs.Prelude.{◌≡◌, ◌⊎◌, ℕ, zero, suc, ◌<◌, ◌≤◌, Bool, nat_le, if◌then◌else◌, List, length}
use Rattle.mip_schedule.specs.declared.event.Event.{Event}
use Rattle.mip_history.specs.Setup.{Setup}
use Rattle.mip_past.specs.Places.{place_at}

-- no entry of the first k events stands at the place or behind it
abbrev pub are_before : Setup → List Event → (place k : ℕ) → Bool
are_before s events place k = nat_le (place_at s events k) place

-- the most events, k at most, of which no entry does; none where there are no such
abbrev pub whole_of : Setup → List Event → (place k : ℕ) → ℕ
whole_of s events place zero = 0
whole_of s events place (suc k) = if are_before s events place (suc k) then suc k else whole_of s events place k

-- how many events lie wholly before the place. One that leaves no entry counts with those that it follows
abbrev pub whole_before : Setup → List Event → (place : ℕ) → ℕ
whole_before s events place = whole_of s events place (length events)

-- of the first k events, so many at most, all entries stand before the place, and of one more not all
pub record AreWhole (s : Setup) (events : List Event) (place most k : ℕ) : Type 0 where
  pub within : k ≤ most
  pub before : (k ≡ 0) ⊎ (place_at s events k ≤ place)
  pub next : k < most → place < place_at s events (suc k)
