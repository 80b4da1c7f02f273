-- Whole trials: the calls on a trial since it was made, newest first, and what the standard says of them.
-- RFC 6275 sections 5.2.5 to 5.2.7, 11.6, 11.7.2 and 11.8
use Rattle.std.specs.Prelude.{◌≡◌, ℕ, ◌+◌, ◌-◌, ◌%◌, ◌<◌, ◌&&◌, ◌==◌, nat_lt, if◌then◌else◌, Option, Some, None, Result, Ok, Err, option_and_then, List, [], ◌∷◌, take, map, count_by}
use Rattle.mip_words.specs.declared.address.Address.{Address}
use Rattle.mip_words.specs.declared.moment.Moment.{Moment}
use Rattle.mip_words.specs.declared.token.Cookie.{Cookie}
use Rattle.mip_tokens.specs.Token.{kbm_both_of, kbm_home_of}
use Rattle.mip_bulist.specs.declared.aim.Aim.{Aim}
use Rattle.mip_bulist.specs.declared.aim.Aim.TheVariants.{Bind, Delete}
use Rattle.mip_bulist.specs.declared.any.Any.{Any}
use Rattle.mip_bulist.specs.declared.any.Any.TheVariants as any
use Rattle.mip_bulist.specs.declared.tested.Test.{Test}
use Rattle.mip_bulist.specs.declared.made.Made.{Made}
use Rattle.mip_bulist.specs.declared.refused.Refused.{Refused}
use Rattle.mip_bulist.specs.declared.state.Probing.{Probing}
use Rattle.mip_bulist.specs.declared.state.Proved.{Proved}
use Rattle.mip_bulist.specs.declared.state.Pending.{Pending}
use Rattle.mip_bulist.specs.declared.trial.Trial.{Trial}
use Rattle.mip_bulist.specs.declared.trial.Probe.{Probe}
use Rattle.mip_bulist.specs.declared.trial.Probe.TheVariants.{More, Done}
use Rattle.mip_bulist.specs.declared.trial.Ended.{Ended}
use Rattle.mip_bulist.specs.declared.trial.Ended.TheVariants as ended
use Rattle.mip_bulist.specs.Trials.{fresh_trial, probed, home_tested, careof_tested, updated, made_again, acknowledged_as, resequenced, at_rest}

-- what a start was given: its aim and the cookies of its HoTI and CoTI
pub record Start : Type 0 where
  pub aim : Aim
  pub home_cookie : Cookie
  pub careof_cookie : Cookie

-- a call on a trial, with what it was given
pub data Call : Type 0 where
  Started : Start → Call
  HomeTest : Address → Cookie → Test → Call
  CareofTest : Address → Cookie → Test → Call
  Updating : Moment → Call
  UpdatingAgain : Moment → Call
  Acknowledged : Address → ℕ → ℕ → Call
  Resequence : ℕ → Call
  GivenUp : Call

-- an update, and when it was made
pub record Update : Type 0 where
  pub at : Moment
  pub made : Made

abbrev pub after_test : Result Probe (Trial Probing × Refused) → Any
after_test (Ok (More t)) = any.Probing t
after_test (Ok (Done t)) = any.Proved t
after_test (Err refusal) = any.Probing refusal.0

abbrev pub after_update : Result (Trial Pending × Made) (Trial Proved × Refused) → Any
after_update (Ok made) = any.Pending made.0
after_update (Err refusal) = any.Proved refusal.0

abbrev pub after_again : Result (Trial Pending × Made) (Trial Pending × Refused) → Any
after_again (Ok made) = any.Pending made.0
after_again (Err refusal) = any.Pending refusal.0

abbrev pub after_acknowledgement : Result Ended (Trial Pending × Refused) → Any
after_acknowledgement (Ok (ended.Bound t)) = any.Bound t
after_acknowledgement (Ok (ended.Deleted t)) = any.Idle t
after_acknowledgement (Err refusal) = any.Pending refusal.0

abbrev pub idle_of : Any → Any
idle_of (any.Idle t) = any.Idle (at_rest t)
idle_of (any.Probing t) = any.Idle (at_rest t)
idle_of (any.Proved t) = any.Idle (at_rest t)
idle_of (any.Pending t) = any.Idle (at_rest t)
idle_of (any.Bound t) = any.Idle (at_rest t)

-- the trial after a call; none where its state has no such call
abbrev pub called : Call → Any → Option Any
called (Started s) (any.Idle t) = Some (any.Probing (probed s.aim s.home_cookie s.careof_cookie t))
called (Started s) _ = None
called (HomeTest peer cookie test) (any.Probing t) = Some (after_test (home_tested peer cookie test t))
called (HomeTest peer cookie test) _ = None
called (CareofTest peer cookie test) (any.Probing t) = Some (after_test (careof_tested peer cookie test t))
called (CareofTest peer cookie test) _ = None
called (Updating now) (any.Proved t) = Some (after_update (updated now t))
called (Updating now) _ = None
called (UpdatingAgain now) (any.Pending t) = Some (after_again (made_again now t))
called (UpdatingAgain now) _ = None
called (Acknowledged peer sequence granted) (any.Pending t) = Some (after_acknowledgement (acknowledged_as peer sequence granted t))
called (Acknowledged peer sequence granted) _ = None
called (Resequence last) (any.Pending t) = Some (any.Pending (resequenced last t))
called (Resequence last) _ = None
called GivenUp t = Some (idle_of t)

-- the trial that these calls leave; none where one of them came in a state that has no such call
abbrev pub trial_after : Address → List Call → Option Any
trial_after peer [] = Some (any.Idle (fresh_trial peer))
trial_after peer (call ∷ past) = option_and_then (called call) (trial_after peer past)

abbrev pub made_in : {S : Type 0} → Moment → Result (Trial Pending × Made) (Trial S × Refused) → Option Update
made_in now (Ok made) = Some (record { at = now; made = made.1 })
made_in now (Err refusal) = None

abbrev pub first_made : Moment → Option Any → Option Update
first_made now (Some (any.Proved t)) = made_in now (updated now t)
first_made now _ = None

abbrev pub later_made : Moment → Option Any → Option Update
later_made now (Some (any.Pending t)) = made_in now (made_again now t)
later_made now _ = None

-- the update that a call makes of this trial
abbrev pub made_by : Call → Option Any → Option Update
made_by (Updating now) t = first_made now t
made_by (UpdatingAgain now) t = later_made now t
made_by _ t = None

abbrev pub with_update : Option Update → List Update → List Update
with_update (Some u) us = u ∷ us
with_update None us = us

-- the updates that these calls made, newest first
abbrev pub updates : Address → List Call → List Update
updates peer [] = []
updates peer (call ∷ past) = with_update (made_by call (trial_after peer past)) (updates peer past)

-- the last start
abbrev pub last_start : List Call → Option Start
last_start [] = None
last_start (Started s ∷ past) = Some s
last_start (_ ∷ past) = last_start past

-- the last Home Test since the last start that this peer answered with this cookie
abbrev pub home_brought : Address → Cookie → List Call → Option Test
home_brought peer cookie [] = None
home_brought peer cookie (Started s ∷ past) = None
home_brought peer cookie (HomeTest from c test ∷ past) = if (from.0 == peer.0) && (c.0 == cookie.0) then Some test else home_brought peer cookie past
home_brought peer cookie (_ ∷ past) = home_brought peer cookie past

-- the last Care-of Test since the last start that this peer answered with this cookie
abbrev pub careof_brought : Address → Cookie → List Call → Option Test
careof_brought peer cookie [] = None
careof_brought peer cookie (Started s ∷ past) = None
careof_brought peer cookie (CareofTest from c test ∷ past) = if (from.0 == peer.0) && (c.0 == cookie.0) then Some test else careof_brought peer cookie past
careof_brought peer cookie (_ ∷ past) = careof_brought peer cookie past

abbrev pub sequence_or : Option Update → ℕ → ℕ
sequence_or (Some u) n = u.made.sequence
sequence_or None n = n

abbrev pub sequence_after : Call → Option Any → ℕ → ℕ
sequence_after (Resequence last) t n = last
sequence_after call t n = sequence_or (made_by call t) n

-- the sequence of the last update, or what `resequence` was given since; 0 before the first
abbrev pub last_sequence : Address → List Call → ℕ
last_sequence peer [] = 0
last_sequence peer (call ∷ past) = sequence_after call (trial_after peer past) (last_sequence peer past)

-- A key to bind is of both tokens, a key to delete of the home token alone. Each Care-of Test was brought by
-- this peer with this start's cookie less than 210,000 ms before.
abbrev pub IsOfAim : Address → Start → Aim → List Call → Update → Type 0
IsOfAim peer start (Bind to) past u =
    (careof : Test) × (careof_brought peer start.careof_cookie past ≡ Some careof) × (u.at.0 - careof.at.0 < 210000) × (u.made.kbm.0 ≡ kbm_both_of u.made.home.0 careof.token.0) × (u.made.indices.careof ≡ careof.index) × (u.made.careof ≡ Some careof.token)
IsOfAim peer start Delete past u =
    (u.made.kbm.0 ≡ kbm_home_of u.made.home.0) × (u.made.indices.careof ≡ 0) × (u.made.careof ≡ None)

-- what is true of each update that is made after these calls
pub record IsRightUpdate (peer : Address) (past : List Call) (u : Update) : Type 0 where
  pub start : Start
  pub started : last_start past ≡ Some start
  pub home : Test
  pub home_here : home_brought peer start.home_cookie past ≡ Some home
  pub home_young : u.at.0 - home.at.0 < 210000
  pub home_token : u.made.home ≡ home.token
  pub home_index : u.made.indices.home ≡ home.index
  pub key : IsOfAim peer start start.aim past u
  pub sequence : u.made.sequence ≡ (last_sequence peer past + 1) % 65536
  pub rate : count_by (λ at. nat_lt (u.at.0 - at.0) 1000) (take 3 (map (λ v. v.at) (updates peer past))) < 3
