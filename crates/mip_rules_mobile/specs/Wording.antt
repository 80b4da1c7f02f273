-- What a step says of a question that is kept for each row, and of how long a registration's resending waits.
-- RFC 6275 sections 11.1, 11.7.1 and 11.7.2
use Rattle.std.specs.Prelude.{ℕ, Bool, true, false, ◌==◌, if◌then◌else◌, Option, Some, None, slice_get}
use Rattle.std.specs.Option.{option_map_or}
use Rattle.mip_words.specs.declared.moment.Moment.{Moment}
use Rattle.mip_bulist.specs.declared.home_timer.HomeTimer.TheVariants as home_timers
use Rattle.mip_bulist.specs.declared.work.Work.TheVariants.{Resend, Home}
use Rattle.mip_rules_mobile.specs.Steps.{Step, Detaches, Restarts, Updates, Forgets, Binds, Unbinds, Waits}
use Rattle.mip_rules_mobile.specs.Known.{Known}

-- the wait of the last resending of a home registration or deregistration that was set
abbrev pub wait_said : Step → Option ℕ
wait_said (Waits (Home home_timers.Resend) wait) = Some wait
wait_said (Restarts secrets) = Some 0
wait_said _ = None

-- this is said where it is of the row
abbrev pub of_row : {X : Type 0} → (at row : ℕ) → X → Option X
of_row at row x = if at == row then Some x else None

-- a row is touched by an update, until a deletion is acknowledged
abbrev pub touched_said : ℕ → Step → Option Bool
touched_said row (Updates at update) = of_row at row true
touched_said row (Forgets at) = of_row at row false
touched_said row (Restarts secrets) = Some false
touched_said row _ = None

-- its binding was acknowledged until an end, unless it ended since or the mobile left
abbrev pub bound_said : ℕ → Step → Option (Option Moment)
bound_said row (Binds at peer end renew) = of_row at row (Some end)
bound_said row (Unbinds at peer) = of_row at row None
bound_said row Detaches = Some None
bound_said row (Restarts secrets) = Some None
bound_said row _ = None

-- the wait of its last resending that was set
abbrev pub resend_said : ℕ → Step → Option ℕ
resend_said row (Waits (Resend at) wait) = of_row at row wait
resend_said row (Restarts secrets) = Some 0
resend_said row _ = None

-- until when the row's binding was acknowledged
abbrev pub bound_at : Known → ℕ → Option Moment
bound_at k row = option_map_or (λ p. p.bound) (slice_get k.peers row) None
