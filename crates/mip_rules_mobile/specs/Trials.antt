-- A trial as the rules read and change it, whatever its state. RFC 6275 sections 5.2, 11.6 and 11.7.2
use Rattle.std.specs.Prelude.{ℕ, Bool, true, false, Option, Some, None, is_none, Result, Ok, Err, List}
use Rattle.std.specs.Result.{is_ok}
use Rattle.mip_words.specs.declared.address.Address.{Address}
use Rattle.mip_words.specs.declared.moment.Moment.{Moment}
use Rattle.mip_words.specs.declared.token.Cookie.{Cookie}
use Rattle.mip_bulist.specs.declared.aim.Aim.{Aim}
use Rattle.mip_bulist.specs.declared.any.Any.{Any}
use Rattle.mip_bulist.specs.declared.any.Any.TheVariants.{Idle, Probing, Proved, Pending, Bound}
use Rattle.mip_bulist.specs.declared.made.Made.{Made}
use Rattle.mip_bulist.specs.declared.refused.Refused.{Refused}
use Rattle.mip_bulist.specs.declared.row.Row.{Row}
use Rattle.mip_bulist.specs.declared.state.Probing as probing
use Rattle.mip_bulist.specs.declared.state.Proved as proved
use Rattle.mip_bulist.specs.declared.state.Pending as pending
use Rattle.mip_bulist.specs.declared.tested.Test.{Test}
use Rattle.mip_bulist.specs.declared.trial.Ended.{Ended}
use Rattle.mip_bulist.specs.declared.trial.Ended.TheVariants as ended
use Rattle.mip_bulist.specs.declared.trial.Probe.{Probe}
use Rattle.mip_bulist.specs.declared.trial.Probe.TheVariants.{More, Done}
use Rattle.mip_bulist.specs.declared.trial.Trial.{Trial}
use Rattle.mip_bulist.specs.Rows.{lifted, with_trial, resting}
use Rattle.mip_bulist.specs.Trials.{probed, home_tested, careof_tested, made_of, updated, made_again, acknowledged_as, resequenced, bound_to, making_of}

-- what is done to a trial
pub data Change : Type 0 where
  -- it starts anew, with these cookies
  Start : (aim : Aim) (home careof : Cookie) → Change
  -- it is given a Home Test, or a Care-of Test, that came from a peer with a cookie
  HomeTest : (peer : Address) (cookie : Cookie) (test : Test) → Change
  CareofTest : (peer : Address) (cookie : Cookie) (test : Test) → Change
  -- an update is made
  Make : Change
  -- the peer's last accepted sequence was this one
  Resequence : (last : ℕ) → Change
  -- the last update was acknowledged, for so many units
  Acknowledge : (sequence granted : ℕ) → Change
  -- it is given up
  Rest : Change

-- what a test leaves
abbrev pub after_probe : Result Probe (Trial probing.Probing × Refused) → Any
after_probe (Ok (More t)) = Probing t
after_probe (Ok (Done t)) = Proved t
after_probe (Err e) = Probing e.0

abbrev pub with_home_test : Address → Cookie → Test → Any → Any
with_home_test peer cookie test (Probing t) = after_probe (home_tested peer cookie test t)
with_home_test peer cookie test any = any

abbrev pub with_careof_test : Address → Cookie → Test → Any → Any
with_careof_test peer cookie test (Probing t) = after_probe (careof_tested peer cookie test t)
with_careof_test peer cookie test any = any

-- what making an update leaves
abbrev pub after_update : Result (Trial pending.Pending × Made) (Trial proved.Proved × Refused) → Any
after_update (Ok r) = Pending r.0
after_update (Err e) = Proved e.0

abbrev pub after_again : Result (Trial pending.Pending × Made) (Trial pending.Pending × Refused) → Any
after_again (Ok r) = Pending r.0
after_again (Err e) = Pending e.0

abbrev pub with_update : Moment → Any → Any
with_update now (Proved t) = after_update (updated now t)
with_update now (Pending t) = after_again (made_again now t)
with_update now any = any

abbrev pub with_last : ℕ → Any → Any
with_last last (Pending t) = Pending (resequenced last t)
with_last last any = any

-- what an acknowledgement leaves
abbrev pub after_end : Result Ended (Trial pending.Pending × Refused) → Any
after_end (Ok (ended.Bound t)) = Bound t
after_end (Ok (ended.Deleted t)) = Idle t
after_end (Err e) = Pending e.0

abbrev pub with_end : ℕ → ℕ → Any → Any
with_end sequence granted (Pending t) = after_end (acknowledged_as t.peer sequence granted t)
with_end sequence granted any = any

-- a trial after a change at a moment
unfoldable pub changed : Moment → Change → Any → Any
changed now (Start aim home careof) any = Probing (probed aim home careof (resting any))
changed now (HomeTest peer cookie test) any = with_home_test peer cookie test any
changed now (CareofTest peer cookie test) any = with_careof_test peer cookie test any
changed now Make any = with_update now any
changed now (Resequence last) any = with_last last any
changed now (Acknowledge sequence granted) any = with_end sequence granted any
changed now Rest any = Idle (resting any)

-- the rows with the trial of one changed
abbrev pub changed_at : Option Any → ℕ → Moment → Change → List Row → List Row
changed_at None row now change rows = rows
changed_at (Some any) row now change rows = with_trial row (Some (changed now change any)) rows

unfoldable pub with_change : ℕ → Moment → Change → List Row → List Row
with_change row now change rows = changed_at (lifted row rows) row now change rows

-- the trial is in this state
abbrev pub is_idle : Option Any → Bool
is_idle (Some (Idle t)) = true
is_idle _ = false

abbrev pub is_bound : Option Any → Bool
is_bound (Some (Bound t)) = true
is_bound _ = false

-- whether the trial keeps a Home Test from this peer with this cookie
abbrev pub keeps_home_test : Address → Cookie → Test → Option Any → Bool
keeps_home_test peer cookie test (Some (Probing t)) = is_ok (home_tested peer cookie test t)
keeps_home_test peer cookie test _ = false

abbrev pub keeps_careof_test : Address → Cookie → Test → Option Any → Bool
keeps_careof_test peer cookie test (Some (Probing t)) = is_ok (careof_tested peer cookie test t)
keeps_careof_test peer cookie test _ = false

-- what comes of making an update now; none where the trial makes none
abbrev pub makes : Moment → Option Any → Option (Result Made Refused)
makes now (Some (Proved t)) = Some (making_of (updated now t))
makes now (Some (Pending t)) = Some (making_of (made_again now t))
makes now _ = None

-- the last update that a pending trial made, and the care-of address that it is to bind; none where it deletes
abbrev pub last_made : Trial pending.Pending → Made
last_made t = made_of t.state.last t.state.tested

abbrev pub binds_to : Trial pending.Pending → Option Address
binds_to t = bound_to t.state.tested

-- when the last update was made
abbrev pub sent_at : Trial pending.Pending → Option Moment
sent_at t = t.recent.newest

-- the tests that are missing
abbrev pub lacks_home : Trial probing.Probing → Bool
lacks_home t = is_none t.state.home

abbrev pub lacks_careof : Trial probing.Probing → Bool
lacks_careof t = is_none t.state.careof
