-- Which work of a mobile is set for when. RFC 6275 section 11.8
use Rattle.std.specs.Prelude.{ℕ, ◌+◌, List, []}
use Rattle.mip_words.specs.declared.moment.Moment.{Moment}
use Rattle.mip_bulist.specs.declared.timer.Timer.{Timer}
use Rattle.mip_bulist.specs.declared.home_timer.HomeTimer.TheVariants as home_timers
use Rattle.mip_bulist.specs.declared.work.Work.{Work}
use Rattle.mip_bulist.specs.declared.work.Work.TheVariants.{Renew, End, Home}
use Rattle.mip_bulist.specs.Timers.{with_timer, without_timer, without_due}
use Rattle.mip_rules_mobile.specs.Steps.{Step, Detaches, Restarts, Registers, Binds, Unbinds, Waits, Stops, Rings}

-- a home registration or deregistration is sent again
abbrev pub resending_home : Work
resending_home = Home home_timers.Resend

-- the registration is renewed, before it ends
abbrev pub renewing_home : Work
renewing_home = Home home_timers.Renew

-- the registration ends
abbrev pub ending_home : Work
ending_home = Home home_timers.End

-- a discovery is tried again, or given up
abbrev pub seeking : Work
seeking = Home home_timers.Discover

-- so many milliseconds later
abbrev pub later : ℕ → ℕ → Moment
later at wait = record { 0 = at + wait }

abbrev pub moment : ℕ → Moment
moment at = record { 0 = at }

-- the timers: what was set last for each work, until it rings or is stopped; all stop as the mobile leaves or restarts
abbrev pub timers_after : List Timer → ℕ → Step → List Timer
timers_after timers at (Waits work wait) = with_timer (later at wait) work timers
timers_after timers at (Stops work) = without_timer work timers
timers_after timers at (Rings work) = without_due (moment at) timers
timers_after timers at (Registers agent end renew) = with_timer end ending_home (with_timer renew renewing_home timers)
timers_after timers at (Binds row peer end renew) = with_timer end (End row) (with_timer renew (Renew row) timers)
timers_after timers at (Unbinds row peer) = without_timer (End row) (without_timer (Renew row) timers)
timers_after timers at Detaches = []
timers_after timers at (Restarts secrets) = []
timers_after timers at _ = timers
