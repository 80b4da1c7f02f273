-- The timers of a mobile: a list by due moment, ties in order of setting.
use Rattle.std.specs.Prelude.{◌≢◌, ℕ, ◌+◌, ◌*◌, ◌<◌, ◌≤◌, Bool, not, ◌==◌, nat_lt, if◌then◌else◌, Option, Some, None, unwrap_or, option_map, List, [], ◌∷◌, length, filter, insert, position, slice_get}
use Rattle.std.specs.List.{list_any}
use Rattle.mip_words.specs.declared.moment.Moment.{Moment}
use Rattle.mip_bulist.specs.declared.home_timer.HomeTimer.{HomeTimer}
use Rattle.mip_bulist.specs.declared.home_timer.HomeTimer.TheVariants as home_timers
use Rattle.mip_bulist.specs.declared.work.Work.{Work}
use Rattle.mip_bulist.specs.declared.work.Work.TheVariants.{Resend, Renew, End, Home}
use Rattle.mip_bulist.specs.declared.timer.Timer.{Timer}

-- the place of a timer among those of the home registration
abbrev pub timer_place_of : HomeTimer → ℕ
timer_place_of home_timers.Resend = 0
timer_place_of home_timers.Renew = 1
timer_place_of home_timers.End = 2
timer_place_of home_timers.Discover = 3

-- a number that no other work has
abbrev pub number_of : Work → ℕ
number_of (Resend row) = 4 * row
number_of (Renew row) = 4 * row + 1
number_of (End row) = 4 * row + 2
number_of (Home timer) = 4 * timer_place_of timer + 3

-- a row below 16, or a timer of the home registration
abbrev pub IsInRange : Work → Type 0
IsInRange (Resend row) = row < 16
IsInRange (Renew row) = row < 16
IsInRange (End row) = row < 16
IsInRange (Home timer) = Unit {0}

abbrev pub is_of : Work → Timer → Bool
is_of work t = number_of t.work == number_of work

-- a timer of this work is set
abbrev pub is_set : Work → List Timer → Bool
is_set work ts = list_any (is_of work) ts

abbrev pub without_timer : Work → List Timer → List Timer
without_timer work ts = filter (λ t. not (is_of work t)) ts

-- the place behind the timers that are due no later
abbrev pub place_of : Moment → List Timer → ℕ
place_of due ts = unwrap_or (position (λ t. nat_lt due.0 t.due.0) ts) (length ts)

abbrev pub put_timer : Timer → List Timer → List Timer
put_timer t ts = insert ts (place_of t.due ts) t

-- the timer of this work is set, or set anew
abbrev pub with_timer : Moment → Work → List Timer → List Timer
with_timer due work ts = put_timer (record { due = due; work = work }) (without_timer work ts)

-- the first timer's work, where it is due
abbrev pub due_work : Moment → List Timer → Option Work
due_work now [] = None
due_work now (t ∷ ts) = if nat_lt now.0 t.due.0 then None else Some t.work

-- the timers without the first, where that is due
abbrev pub without_due : Moment → List Timer → List Timer
without_due now [] = []
without_due now (t ∷ ts) = if nat_lt now.0 t.due.0 then t ∷ ts else ts

abbrev pub first_due : List Timer → Option Moment
first_due ts = option_map (λ t. t.due) (slice_get ts 0)

-- no timer has this number
abbrev pub IsAbsent : ℕ → List Timer → Type 0
IsAbsent n [] = Unit {0}
IsAbsent n (t ∷ ts) = (number_of t.work ≢ n) × IsAbsent n ts

-- numbers below 64, no two the same
abbrev pub AreApart : List Timer → Type 0
AreApart [] = Unit {0}
AreApart (t ∷ ts) = (number_of t.work < 64) × IsAbsent (number_of t.work) ts × AreApart ts

-- each is due at this moment or later
abbrev pub AreDueFrom : ℕ → List Timer → Type 0
AreDueFrom at [] = Unit {0}
AreDueFrom at (t ∷ ts) = (at ≤ t.due.0) × AreDueFrom at ts

-- the due moments never fall
abbrev pub AreInOrder : List Timer → Type 0
AreInOrder [] = Unit {0}
AreInOrder (t ∷ ts) = AreDueFrom t.due.0 ts × AreInOrder ts

-- timers of different works, in order of due moment
pub record IsSound (ts : List Timer) : Type 0 where
  pub apart : AreApart ts
  pub order : AreInOrder ts
