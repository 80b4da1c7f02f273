-- Due work. RFC 6275 sections 11.4.1, 11.7.1, 11.7.2 and 11.8
use Rattle.std.specs.Prelude.{ℕ, zero, suc, if◌then◌else◌, length, Option, Some, None}
use Rattle.mip_words.specs.declared.address.Address.{Address}
use Rattle.mip_bulist.specs.declared.home_timer.HomeTimer.{HomeTimer}
use Rattle.mip_bulist.specs.declared.home_timer.HomeTimer.TheVariants as home_timers
use Rattle.mip_bulist.specs.declared.work.Work.{Work}
use Rattle.mip_bulist.specs.declared.work.Work.TheVariants.{Resend, Renew, End, Home}
use Rattle.mip_bulist.specs.Timers.{due_work}
use Rattle.mip_rules_mobile.specs.declared.registered.Registered.{Registered}
use Rattle.mip_rules_mobile.specs.Timing.{doubled}
use Rattle.mip_rules_mobile.specs.Trials.{Rest, is_bound}
use Rattle.mip_rules_mobile.specs.Steps.{Unregisters, Tries, Unbinds, Rings}
use Rattle.mip_rules_mobile.specs.RowQuestions.{peer_of_row, trial_of}
use Rattle.mip_rules_mobile.specs.TimerQuestions.{moment}
use Rattle.mip_rules_mobile.specs.Transitions.{Transition, noted}
use Rattle.mip_rules_mobile.specs.TrialRules.{starts, resends_row}
use Rattle.mip_rules_mobile.specs.HomeRules.{seeks_again, resends_home}
pub use Rattle.mip_rules_mobile.specs.HomeRules.{registers_if_away}

-- the registration ends
abbrev pub ends_home : Option Registered → Transition → Transition
ends_home None t = t
ends_home (Some r) t = noted (Unregisters r.agent) t

-- a binding ends; its trial is given up, unless it is a new one
abbrev pub rests_if_bound : ℕ → Transition → Transition
rests_if_bound row t = if is_bound (trial_of t.known row) then noted (Tries row Rest) t else t

abbrev pub ends_at : Option Address → ℕ → Transition → Transition
ends_at None row t = t
ends_at (Some peer) row t = rests_if_bound row (noted (Unbinds row peer) t)

unfoldable pub ends_row : ℕ → Transition → Transition
ends_row row t = ends_at (peer_of_row t.known row) row t

-- the timers of the home registration
abbrev pub rings_home : HomeTimer → Transition → Transition
rings_home home_timers.Resend t = resends_home (doubled t.known.wait) t
rings_home home_timers.Renew t = registers_if_away t.known.standing t
rings_home home_timers.End t = ends_home t.known.registered t
rings_home home_timers.Discover t = seeks_again t

abbrev pub does_work : Work → Transition → Transition
does_work (Resend row) t = resends_row row t
does_work (Renew row) t = starts row t
does_work (End row) t = ends_row row t
does_work (Home timer) t = rings_home timer t

unfoldable pub rings : Work → Transition → Transition
rings work t = does_work work (noted (Rings work) t)

-- work that is due is done, and then what is due after it
abbrev pub rings_on : (Transition → Transition) → Option Work → Transition → Transition
rings_on more None t = t
rings_on more (Some work) t = more (rings work t)

unfoldable pub ticks : ℕ → Transition → Transition
ticks zero t = t
ticks (suc n) t = rings_on (ticks n) (due_work (moment t.now) t.known.list.timers) t

-- each timer that is set rings once at most: what is set meanwhile is due later
unfoldable pub ticks_all : Transition → Transition
ticks_all t = ticks (length t.known.list.timers) t
