-- What is asked of the rows, timers and sequences of a mobile that is led along. RFC 6275 sections 11.1, 11.6 and 11.7
use Rattle.std.specs.Prelude.{ℕ, List, map, Option, Some, None, option_map, option_and_then}
use Rattle.std.specs.Option.{option_map_or}
use Rattle.mip_words.specs.declared.address.Address.{Address}
use Rattle.mip_words.specs.declared.token.Cookie.{Cookie}
use Rattle.mip_bulist.specs.declared.aim.Aim.{Aim}
use Rattle.mip_bulist.specs.declared.aim.Aim.TheVariants.{Bind, Delete}
use Rattle.mip_bulist.specs.declared.any.Any.{Any}
use Rattle.mip_bulist.specs.declared.any.Any.TheVariants as any
use Rattle.mip_bulist.specs.declared.home_timer.HomeTimer.{HomeTimer}
use Rattle.mip_bulist.specs.declared.home_timer.HomeTimer.TheVariants as home_timers
use Rattle.mip_bulist.specs.declared.row.Row.{Row}
use Rattle.mip_bulist.specs.declared.tested.Test.{Test}
use Rattle.mip_bulist.specs.declared.tested.Tested.{Tested}
use Rattle.mip_bulist.specs.declared.tested.Tested.TheVariants.{Both, Home}
use Rattle.mip_bulist.specs.declared.timer.Timer.{Timer}
use Rattle.mip_bulist.specs.declared.work.Work.{Work}
use Rattle.mip_bulist.specs.declared.work.Work.TheVariants as works
use Rattle.mip_bulist.specs.Lists.{ListSeen}
use Rattle.mip_bulist.specs.Rows.{row_place, lifted, peer_at}
use Rattle.mip_rules_mobile.specs.declared.numbering.Numbering.{Numbering}
use Rattle.mip_past_led.specs.declared.cookies.Cookies.{Cookies}
use Rattle.mip_past_led.specs.declared.kept.Kept.{Kept}
use Rattle.mip_past_led.specs.declared.kept.KeptTest.{KeptTest}
use Rattle.mip_past_led.specs.declared.due.Due.{Due}
use Rattle.mip_past_led.specs.declared.task.Task.{Task}
use Rattle.mip_past_led.specs.declared.task.Task.TheVariants as tasks
use Rattle.mip_past_led.specs.declared.trial_state.TrialState.{TrialState}
use Rattle.mip_past_led.specs.declared.trial_state.TrialState.TheVariants as states

-- the peers that have a row, in the order in which they got it, and the row of one
abbrev pub Rows : Type 0
Rows = List Row

abbrev pub peers_of : Rows → List Address
peers_of rows = map (λ r. r.peer) rows

abbrev pub row_with : Rows → Address → Option ℕ
row_with rows peer = row_place peer rows

-- return routability with a peer, where it has a row
abbrev pub trial_with : Rows → Address → Option Any
trial_with rows peer = option_and_then (λ row. lifted row rows) (row_with rows peer)

-- how far it is; nothing is under way with a peer that has no row
abbrev pub state_of : Any → TrialState
state_of (any.Idle t) = states.Idle
state_of (any.Probing t) = states.Probing
state_of (any.Proved t) = states.Proved
state_of (any.Pending t) = states.Pending
state_of (any.Bound t) = states.Bound

abbrev pub state_with : Rows → Address → TrialState
state_with rows peer = option_map_or state_of (trial_with rows peer) states.Idle

-- the cookies that a test of the peer has to return, while one is waited for: a deletion asks for no Care-of Test
abbrev pub careof_cookie_for : Aim → Cookie → Option Cookie
careof_cookie_for (Bind to) cookie = Some cookie
careof_cookie_for Delete cookie = None

abbrev pub cookies_of : Any → Option Cookies
cookies_of (any.Probing t) = Some (record { home = t.state.home_cookie; careof = careof_cookie_for t.state.aim t.state.careof_cookie })
cookies_of _ = None

abbrev pub cookies_with : Rows → Address → Option Cookies
cookies_with rows peer = option_and_then cookies_of (trial_with rows peer)

-- the tests that are kept for the next update to the peer, from the first that comes to the acknowledgement of the update
abbrev pub test_kept : Test → KeptTest
test_kept t = record { index = t.index; token = t.token }

abbrev pub nothing_kept : Kept
nothing_kept = record { home = None; careof = None }

abbrev pub both_kept : Tested → Kept
both_kept (Both to home careof) = record { home = Some (test_kept home); careof = Some (test_kept careof) }
both_kept (Home home) = record { home = Some (test_kept home); careof = None }

abbrev pub kept_of : Any → Kept
kept_of (any.Probing t) = record { home = option_map test_kept t.state.home; careof = option_map test_kept t.state.careof }
kept_of (any.Proved t) = both_kept t.state.tested
kept_of (any.Pending t) = both_kept t.state.tested
kept_of _ = nothing_kept

abbrev pub kept_with : Rows → Address → Kept
kept_with rows peer = option_map_or kept_of (trial_with rows peer) nothing_kept

-- the sequence that the next update to the peer takes, 1 to one that has no row
abbrev pub next_of : Any → ℕ
next_of (any.Idle t) = t.next
next_of (any.Probing t) = t.next
next_of (any.Proved t) = t.next
next_of (any.Pending t) = t.next
next_of (any.Bound t) = t.next

abbrev pub next_to_peer : Rows → Address → ℕ
next_to_peer rows peer = option_map_or next_of (trial_with rows peer) 1

-- the agents to which a home registration went, or that told a sequence
abbrev pub agents_of : List Numbering → List Address
agents_of numberings = map (λ n. n.agent) numberings

-- the work ahead, by its moment, ties in the order in which it was set
abbrev pub home_task : HomeTimer → Task
home_task home_timers.Resend = tasks.HomeResend
home_task home_timers.Renew = tasks.HomeRenew
home_task home_timers.End = tasks.HomeEnd
home_task home_timers.Discover = tasks.Discover

abbrev pub task_of : Work → Task
task_of (works.Resend row) = tasks.Resend
task_of (works.Renew row) = tasks.Renew
task_of (works.End row) = tasks.End
task_of (works.Home timer) = home_task timer

abbrev pub peer_of_work : Rows → Work → Option Address
peer_of_work rows (works.Resend row) = peer_at row rows
peer_of_work rows (works.Renew row) = peer_at row rows
peer_of_work rows (works.End row) = peer_at row rows
peer_of_work rows (works.Home timer) = None

abbrev pub due_of : Rows → Timer → Due
due_of rows t = record { at = t.due; task = task_of t.work; peer = peer_of_work rows t.work }

abbrev pub due_work_of : ListSeen → List Due
due_work_of list = map (due_of list.rows) list.timers
