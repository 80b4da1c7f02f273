-- Return routability with one peer, as functions on the trial: one definition a call.
-- RFC 6275 sections 5.2.5 to 5.2.7, 11.6 and 11.7.2
use Rattle.std.specs.Prelude.{◌≡◌, ℕ, ◌+◌, ◌-◌, ◌%◌, Bool, true, false, not, ◌&&◌, ◌==◌, nat_lt, if◌then◌else◌, Option, Some, None, Result, Ok, Err}
use Rattle.mip_words.specs.declared.address.Address.{Address}
use Rattle.mip_words.specs.declared.moment.Moment.{Moment}
use Rattle.mip_words.specs.declared.token.Cookie.{Cookie}
use Rattle.mip_words.specs.Constants.{max_token_lifetime}
use Rattle.mip_tokens.specs.Token.{kbm_both_of, kbm_home_of, kbm_of_tokens}
use Rattle.mip_bulist.specs.declared.aim.Aim.{Aim}
use Rattle.mip_bulist.specs.declared.aim.Aim.TheVariants.{Bind, Delete}
use Rattle.mip_bulist.specs.declared.tested.Test.{Test}
use Rattle.mip_bulist.specs.declared.tested.Tested.{Tested}
use Rattle.mip_bulist.specs.declared.tested.Tested.TheVariants.{Both, Home}
use Rattle.mip_bulist.specs.declared.recent.Recent.{Recent}
use Rattle.mip_bulist.specs.declared.made.Made.{Made}
use Rattle.mip_bulist.specs.declared.refused.Refused.{Refused}
use Rattle.mip_bulist.specs.declared.refused.Refused.TheVariants as refused
use Rattle.mip_bulist.specs.declared.state.Idle.{Idle}
use Rattle.mip_bulist.specs.declared.state.Probing.{Probing}
use Rattle.mip_bulist.specs.declared.state.Proved.{Proved}
use Rattle.mip_bulist.specs.declared.state.Pending.{Pending}
use Rattle.mip_bulist.specs.declared.trial.Trial.{Trial}
use Rattle.mip_bulist.specs.declared.trial.Probe.{Probe}
use Rattle.mip_bulist.specs.declared.trial.Probe.TheVariants.{More, Done}
use Rattle.mip_bulist.specs.declared.trial.Ended.{Ended}
use Rattle.mip_bulist.specs.declared.trial.Ended.TheVariants as ended

abbrev pub peer_of : {S : Type 0} → Trial S → Address
peer_of t = t.peer

-- the sequence that the next update takes
abbrev pub next_of : {S : Type 0} → Trial S → ℕ
next_of t = t.next

-- the trial in another state
abbrev pub in_state : {S T : Type 0} → T → Trial S → Trial T
in_state state t = record { peer = t.peer; next = t.next; recent = t.recent; state = state }

-- no update was made yet
abbrev pub fresh_trial : Address → Trial Idle
fresh_trial peer = record { peer = peer; next = 1; recent = record { newest = None; middle = None; oldest = None }; state = record {} }

-- a start, with the cookies of its HoTI and CoTI
abbrev pub probed : Aim → Cookie → Cookie → Trial Idle → Trial Probing
probed aim home careof t =
    in_state (record { aim = aim; home_cookie = home; careof_cookie = careof; home = None; careof = None }) t

-- the tests that an aim needs, once they are there: a home test, and to bind a care-of test too
abbrev pub needed : Aim → Option Test → Option Test → Option Tested
needed (Bind to) (Some home) (Some careof) = Some (Both to home careof)
needed (Bind to) (Some home) None = None
needed (Bind to) None careof = None
needed Delete (Some home) careof = Some (Home home)
needed Delete None careof = None

abbrev pub proved_where : Option Tested → Trial Probing → Probe
proved_where (Some tested) t = Done (in_state (record { tested = tested }) t)
proved_where None t = More t

-- proved once it has the tests that its aim needs
abbrev pub weighed : Trial Probing → Probe
weighed t = proved_where (needed t.state.aim t.state.home t.state.careof) t

abbrev pub with_home : Test → Trial Probing → Trial Probing
with_home test t = in_state (record { aim = t.state.aim; home_cookie = t.state.home_cookie; careof_cookie = t.state.careof_cookie; home = Some test; careof = t.state.careof }) t

abbrev pub with_careof : Test → Trial Probing → Trial Probing
with_careof test t = in_state (record { aim = t.state.aim; home_cookie = t.state.home_cookie; careof_cookie = t.state.careof_cookie; home = t.state.home; careof = Some test }) t

abbrev pub is_deletion : Aim → Bool
is_deletion (Bind to) = false
is_deletion Delete = true

-- a Home Test: from this peer, with this start's home cookie
abbrev pub home_tested : Address → Cookie → Test → Trial Probing → Result Probe (Trial Probing × Refused)
home_tested peer cookie test t =
    if not (peer.0 == t.peer.0) then Err (t, refused.NotMine)
    else if not (cookie.0 == t.state.home_cookie.0) then Err (t, refused.Cookie)
    else Ok (weighed (with_home test t))

-- a Care-of Test: from this peer, with this start's care-of cookie; a deletion asked for none
abbrev pub careof_tested : Address → Cookie → Test → Trial Probing → Result Probe (Trial Probing × Refused)
careof_tested peer cookie test t =
    if not (peer.0 == t.peer.0) then Err (t, refused.NotMine)
    else if is_deletion t.state.aim then Err (t, refused.Cookie)
    else if not (cookie.0 == t.state.careof_cookie.0) then Err (t, refused.Cookie)
    else Ok (weighed (with_careof test t))

-- a token serves for less than 210,000 ms (MAX_TOKEN_LIFETIME)
abbrev pub is_old : Moment → Test → Bool
is_old now test = not (nat_lt (now.0 - test.at.0) max_token_lifetime)

abbrev pub has_old : Moment → Tested → Bool
has_old now (Both to home careof) = if is_old now home then true else is_old now careof
has_old now (Home home) = is_old now home

-- an update was made less than 1,000 ms before
abbrev pub within_second : Moment → Option Moment → Bool
within_second now None = false
within_second now (Some at) = nat_lt (now.0 - at.0) 1000

-- three updates were made less than 1,000 ms before (MAX_UPDATE_RATE)
abbrev pub is_too_soon : Moment → Recent → Bool
is_too_soon now recent = within_second now recent.newest && (within_second now recent.middle && within_second now recent.oldest)

abbrev pub made_of : ℕ → Tested → Made
made_of sequence (Both to home careof) = record {
  sequence = sequence;
  kbm = record { 0 = kbm_both_of home.token.0 careof.token.0 };
  indices = record { home = home.index; careof = careof.index };
  home = home.token;
  careof = Some careof.token;
}
made_of sequence (Home home) = record {
  sequence = sequence;
  kbm = record { 0 = kbm_home_of home.token.0 };
  indices = record { home = home.index; careof = 0 };
  home = home.token;
  careof = None;
}

-- an update is made under the key of its tokens
abbrev pub IsOfTokens : Made → Type 0
IsOfTokens made = made.kbm.0 ≡ kbm_of_tokens made.home made.careof

-- the care-of address that an update of these tests binds; none where it deletes
abbrev pub bound_to : Tested → Option Address
bound_to (Both to home careof) = Some to
bound_to (Home home) = None

-- the next update of these tests is made now
abbrev pub made_now : {S : Type 0} → Moment → Tested → Trial S → Trial Pending × Made
made_now now tested t =
    (record { peer = t.peer; next = (t.next + 1) % 65536; recent = record { newest = Some now; middle = t.recent.newest; oldest = t.recent.middle }; state = record { tested = tested; last = t.next } }, made_of t.next tested)

abbrev pub making : {S : Type 0} → Moment → Tested → Trial S → Result (Trial Pending × Made) (Trial S × Refused)
making now tested t =
    if has_old now tested then Err (t, refused.Old)
    else if is_too_soon now t.recent then Err (t, refused.TooSoon)
    else Ok (made_now now tested t)

-- what comes of making an update
abbrev pub making_of : {S : Type 0} → Result (Trial Pending × Made) (Trial S × Refused) → Result Made Refused
making_of (Ok r) = Ok r.1
making_of (Err e) = Err e.1

-- the trial that making an update leaves, without the update
abbrev pub trial_left : {S : Type 0} → Result (Trial Pending × Made) (Trial S × Refused) → Result (Trial Pending) (Trial S × Refused)
trial_left (Ok r) = Ok r.0
trial_left (Err e) = Err e

abbrev pub updated : Moment → Trial Proved → Result (Trial Pending × Made) (Trial Proved × Refused)
updated now t = making now t.state.tested t

abbrev pub made_again : Moment → Trial Pending → Result (Trial Pending × Made) (Trial Pending × Refused)
made_again now t = making now t.state.tested t

-- what an acknowledgement that grants a lifetime leaves: a binding only where the update was to bind
abbrev pub ended_with : ℕ → Tested → Trial Pending → Ended
ended_with granted (Both to home careof) t =
    if granted == 0 then ended.Deleted (in_state (record {}) t) else ended.Bound (in_state (record { aim = Bind to }) t)
ended_with granted (Home home) t = ended.Deleted (in_state (record {}) t)

-- an acknowledgement: from this peer, with the sequence of the last update made
abbrev pub acknowledged_as : Address → ℕ → ℕ → Trial Pending → Result Ended (Trial Pending × Refused)
acknowledged_as peer sequence granted t =
    if not (peer.0 == t.peer.0) then Err (t, refused.NotMine)
    else if not (sequence == t.state.last) then Err (t, refused.NotMine)
    else Ok (ended_with granted t.state.tested t)

-- the peer's last accepted sequence was this one
abbrev pub resequenced : ℕ → Trial Pending → Trial Pending
resequenced last t = record { peer = t.peer; next = (last + 1) % 65536; recent = t.recent; state = t.state }

abbrev pub at_rest : {S : Type 0} → Trial S → Trial Idle
at_rest t = in_state (record {}) t
