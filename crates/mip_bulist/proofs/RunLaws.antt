-- What each update of a whole trial is: by the calls before it, one after another.
use Rattle.std.proofs.Common.{◌≡◌, ℕ, ◌+◌, ◌-◌, ◌<◌, Bool, true, false, refl, ap, ◌∙◌, sym, subst, arith, List, [], ◌∷◌, nat_lt}
use Rattle.std.specs.Prelude.{cond, not, ◌==◌, ◌&&◌, ◌%◌, Option, Some, None, IfSome, Result, Ok, Err, option_and_then, map, take, count_by}
use Rattle.std.proofs.lemmas.Bool.Decides.{nat_tests}
use Rattle.mip_words.specs.declared.address.Address.{Address}
use Rattle.mip_words.specs.declared.moment.Moment.{Moment}
use Rattle.mip_words.specs.declared.token.Cookie.{Cookie}
use Rattle.mip_bulist.specs.declared.aim.Aim.{Aim}
use Rattle.mip_bulist.specs.declared.aim.Aim.TheVariants.{Bind, Delete}
use Rattle.mip_bulist.specs.declared.any.Any.{Any}
use Rattle.mip_bulist.specs.declared.any.Any.TheVariants as any
use Rattle.mip_bulist.specs.declared.made.Made.{Made}
use Rattle.mip_bulist.specs.declared.tested.Test.{Test}
use Rattle.mip_bulist.specs.declared.tested.Tested.{Tested}
use Rattle.mip_bulist.specs.declared.tested.Tested.TheVariants.{Both, Home}
use Rattle.mip_bulist.specs.declared.recent.Recent.{Recent}
use Rattle.mip_bulist.specs.declared.refused.Refused.{Refused}
use Rattle.mip_bulist.specs.declared.refused.Refused.TheVariants as refused
use Rattle.mip_bulist.specs.declared.trial.Ended.TheVariants as ended
use Rattle.mip_bulist.specs.declared.state.Probing.{Probing}
use Rattle.mip_bulist.specs.declared.state.Proved.{Proved}
use Rattle.mip_bulist.specs.declared.state.Pending.{Pending}
use Rattle.mip_bulist.specs.declared.trial.Trial.{Trial}
use Rattle.mip_bulist.specs.declared.trial.Ended.{Ended}
use Rattle.mip_bulist.specs.Trials.{in_state, home_tested, careof_tested, with_home, with_careof, weighed, needed, proved_where, is_deletion, is_old, has_old, is_too_soon, made_of, made_now, making, updated, made_again, acknowledged_as, ended_with}
use Rattle.mip_bulist.specs.Runs.{Start, Call, Started, HomeTest, CareofTest, Updating, UpdatingAgain, Acknowledged, Resequence, GivenUp, Update, after_test, after_update, after_again, after_acknowledgement, called, trial_after, made_in, made_by, with_update, updates, last_start, home_brought, careof_brought, sequence_or, sequence_after, last_sequence, IsOfAim, IsRightUpdate}

first : List Update → Option Moment
first [] = None
first (u ∷ us) = Some u.at

rest : List Update → List Update
rest [] = []
rest (u ∷ us) = us

abbrev recent_of : List Update → Recent
unfolding first rest
recent_of us = record { newest = first us; middle = first (rest us); oldest = first (rest (rest us)) }

-- what a trial keeps in each state: its peer, the sequence after the last one, the moments of the last updates
record IsKept {S : Type 0} (peer : Address) (n : ℕ) (us : List Update) (t : Trial S) : Type 0 where
  of_peer : t.peer ≡ peer
  next : t.next ≡ (n + 1) % 65536
  recent : t.recent ≡ recent_of us

abbrev IsCareofKept : Aim → Address → Cookie → Option Test → List Call → Type 0
IsCareofKept (Bind to) peer cookie o past = careof_brought peer cookie past ≡ o
IsCareofKept Delete peer cookie o past = Unit {0}

record IsProbed (peer : Address) (past : List Call) (p : Probing) : Type 0 where
  started : last_start past ≡ Some (record { aim = p.aim; home_cookie = p.home_cookie; careof_cookie = p.careof_cookie })
  home : home_brought peer p.home_cookie past ≡ p.home
  careof : IsCareofKept p.aim peer p.careof_cookie p.careof past

abbrev IsOfTests : Tested → Address → Start → List Call → Type 0
IsOfTests (Both to home careof) peer s past = (s.aim ≡ Bind to) × (home_brought peer s.home_cookie past ≡ Some home) × (careof_brought peer s.careof_cookie past ≡ Some careof)
IsOfTests (Home home) peer s past = (s.aim ≡ Delete) × (home_brought peer s.home_cookie past ≡ Some home)

record IsTested (peer : Address) (past : List Call) (tested : Tested) : Type 0 where
  start : Start
  started : last_start past ≡ Some start
  tests : IsOfTests tested peer start past

abbrev IsAt : Address → ℕ → List Update → List Call → Any → Type 0
IsAt peer n us past (any.Idle t) = IsKept peer n us t
IsAt peer n us past (any.Probing t) = IsKept peer n us t × IsProbed peer past t.state
IsAt peer n us past (any.Proved t) = IsKept peer n us t × IsTested peer past t.state.tested
IsAt peer n us past (any.Pending t) = IsKept peer n us t × IsTested peer past t.state.tested
IsAt peer n us past (any.Bound t) = IsKept peer n us t

kept_in : {S T : Type 0} (peer : Address) (n : ℕ) (us : List Update) (t : Trial S) (state : T) → IsKept peer n us t → IsKept peer n us (in_state state t)
kept_in peer n us t state k = record { of_peer = k.of_peer; next = k.next; recent = k.recent }

-- calls that bring no test leave the tests
tests_on : (tested : Tested) (peer : Address) (s : Start) (past more : List Call) → ((k : Cookie) → home_brought peer k more ≡ home_brought peer k past) → ((k : Cookie) → careof_brought peer k more ≡ careof_brought peer k past) → IsOfTests tested peer s past → IsOfTests tested peer s more
tests_on (Both to home careof) peer s past more h c i = (i.0, h s.home_cookie ∙ i.1, c s.careof_cookie ∙ i.2)
tests_on (Home home) peer s past more h c i = (i.0, h s.home_cookie ∙ i.1)

tested_on : (tested : Tested) (peer : Address) (past more : List Call) → last_start more ≡ last_start past → ((k : Cookie) → home_brought peer k more ≡ home_brought peer k past) → ((k : Cookie) → careof_brought peer k more ≡ careof_brought peer k past) → IsTested peer past tested → IsTested peer more tested
tested_on tested peer past more s h c i = record { start = i.start; started = s ∙ i.started; tests = tests_on tested peer i.start past more h c i.tests }

careof_put : (aim : Aim) (peer : Address) (k : Cookie) (o : Option Test) (more : List Call) → careof_brought peer k more ≡ o → IsCareofKept aim peer k o more
careof_put (Bind to) peer k o more e = e
careof_put Delete peer k o more e = tt

careof_on : (aim : Aim) (peer : Address) (k : Cookie) (o : Option Test) (past more : List Call) → careof_brought peer k more ≡ careof_brought peer k past → IsCareofKept aim peer k o past → IsCareofKept aim peer k o more
careof_on (Bind to) peer k o past more e i = e ∙ i
careof_on Delete peer k o past more e i = tt

careof_deletion : (aim : Aim) (peer : Address) (k : Cookie) (o : Option Test) (more : List Call) → is_deletion aim ≡ true → IsCareofKept aim peer k o more
careof_deletion (Bind to) peer k o more e = absurd cc
careof_deletion Delete peer k o more e = tt

-- a test that was kept
needed_tested : (aim : Aim) (home careof : Option Test) (peer : Address) (s : Start) (more : List Call) → s.aim ≡ aim → last_start more ≡ Some s → home_brought peer s.home_cookie more ≡ home → IsCareofKept aim peer s.careof_cookie careof more → IfSome (needed aim home careof) (λ x. IsTested peer more x)
needed_tested (Bind to) (Some h) (Some c) peer s more a st eh ec = record { start = s; started = st; tests = (a, eh, ec) }
needed_tested (Bind to) (Some h) None peer s more a st eh ec = tt
needed_tested (Bind to) None careof peer s more a st eh ec = tt
needed_tested Delete (Some h) careof peer s more a st eh ec = record { start = s; started = st; tests = (a, eh) }
needed_tested Delete None careof peer s more a st eh ec = tt

weigh_at : (o : Option Tested) (t : Trial Probing) (peer : Address) (n : ℕ) (us : List Update) (more : List Call) → IsKept peer n us t → IsProbed peer more t.state → IfSome o (λ x. IsTested peer more x) → IsAt peer n us more (after_test (Ok (proved_where o t)))
weigh_at None t peer n us more k p i = (k, p)
weigh_at (Some x) t peer n us more k p i = (kept_in peer n us t (record { tested = x }) k, i)

weigh : (t : Trial Probing) (peer : Address) (n : ℕ) (us : List Update) (more : List Call) → IsKept peer n us t → IsProbed peer more t.state → IsAt peer n us more (after_test (Ok (weighed t)))
weigh t peer n us more k p =
    let s : Start = record { aim = t.state.aim; home_cookie = t.state.home_cookie; careof_cookie = t.state.careof_cookie } in
    weigh_at (needed t.state.aim t.state.home t.state.careof) t peer n us more k p (needed_tested t.state.aim t.state.home t.state.careof peer s more refl p.started p.home p.careof)

home_yes : (peer from : Address) (k c : Cookie) (test : Test) (past : List Call) → (from.0 == peer.0) ≡ true → (c.0 == k.0) ≡ true → home_brought peer k (HomeTest from c test ∷ past) ≡ Some test
home_yes peer from k c test past e1 e2 = rw (e1, e2) refl

home_other : (peer from : Address) (k c : Cookie) (test : Test) (past : List Call) → (from.0 == peer.0) ≡ false → home_brought peer k (HomeTest from c test ∷ past) ≡ home_brought peer k past
home_other peer from k c test past e1 = rw e1 refl

home_wrong : (peer from : Address) (k c : Cookie) (test : Test) (past : List Call) → (from.0 == peer.0) ≡ true → (c.0 == k.0) ≡ false → home_brought peer k (HomeTest from c test ∷ past) ≡ home_brought peer k past
home_wrong peer from k c test past e1 e2 = rw (e1, e2) refl

careof_yes : (peer from : Address) (k c : Cookie) (test : Test) (past : List Call) → (from.0 == peer.0) ≡ true → (c.0 == k.0) ≡ true → careof_brought peer k (CareofTest from c test ∷ past) ≡ Some test
careof_yes peer from k c test past e1 e2 = rw (e1, e2) refl

careof_other : (peer from : Address) (k c : Cookie) (test : Test) (past : List Call) → (from.0 == peer.0) ≡ false → careof_brought peer k (CareofTest from c test ∷ past) ≡ careof_brought peer k past
careof_other peer from k c test past e1 = rw e1 refl

careof_wrong : (peer from : Address) (k c : Cookie) (test : Test) (past : List Call) → (from.0 == peer.0) ≡ true → (c.0 == k.0) ≡ false → careof_brought peer k (CareofTest from c test ∷ past) ≡ careof_brought peer k past
careof_wrong peer from k c test past e1 e2 = rw (e1, e2) refl

-- a Home Test
home_step : (t : Trial Probing) (peer : Address) (n : ℕ) (us : List Update) (past : List Call) (from : Address) (c : Cookie) (test : Test) → IsKept peer n us t → IsProbed peer past t.state → IsAt peer n us (HomeTest from c test ∷ past) (after_test (home_tested from c test t))
home_step t peer n us past from c test k p =
    let more : List Call = HomeTest from c test ∷ past in
    let at_peer : (b : Bool) → (from.0 == t.peer.0) ≡ b → (from.0 == peer.0) ≡ b = λ b e. subst (λ (a : Address). (from.0 == a.0) ≡ b) k.of_peer e in
    let careof : IsCareofKept t.state.aim peer t.state.careof_cookie t.state.careof more = careof_on t.state.aim peer t.state.careof_cookie t.state.careof past more refl p.careof in
    let P : Bool → Type 0 = λ b. (from.0 == t.peer.0) ≡ b → IsAt peer n us more (after_test (cond (not b) (Err (t, refused.NotMine)) (cond (not (c.0 == t.state.home_cookie.0)) (Err (t, refused.Cookie)) (Ok (weighed (with_home test t)))))) in
    let R : Bool → Type 0 = λ b. (from.0 == t.peer.0) ≡ true → (c.0 == t.state.home_cookie.0) ≡ b → IsAt peer n us more (after_test (cond (not b) (Err (t, refused.Cookie)) (Ok (weighed (with_home test t))))) in
    (elim (from.0 == t.peer.0) as P [
      | true ↦ λ e1. (elim (c.0 == t.state.home_cookie.0) as R [
        | true ↦ λ e1 e2. weigh (with_home test t) peer n us more (record { of_peer = k.of_peer; next = k.next; recent = k.recent }) (record { started = p.started; home = home_yes peer from t.state.home_cookie c test past (at_peer true e1) e2; careof = careof })
        | false ↦ λ e1 e2. (k, record { started = p.started; home = home_wrong peer from t.state.home_cookie c test past (at_peer true e1) e2 ∙ p.home; careof = careof })
      ]) e1 refl
      | false ↦ λ e1. (k, record { started = p.started; home = home_other peer from t.state.home_cookie c test past (at_peer false e1) ∙ p.home; careof = careof })
    ]) refl

-- a Care-of Test
careof_step : (t : Trial Probing) (peer : Address) (n : ℕ) (us : List Update) (past : List Call) (from : Address) (c : Cookie) (test : Test) → IsKept peer n us t → IsProbed peer past t.state → IsAt peer n us (CareofTest from c test ∷ past) (after_test (careof_tested from c test t))
careof_step t peer n us past from c test k p =
    let more : List Call = CareofTest from c test ∷ past in
    let at_peer : (b : Bool) → (from.0 == t.peer.0) ≡ b → (from.0 == peer.0) ≡ b = λ b e. subst (λ (a : Address). (from.0 == a.0) ≡ b) k.of_peer e in
    let P : Bool → Type 0 = λ b. (from.0 == t.peer.0) ≡ b → IsAt peer n us more (after_test (cond (not b) (Err (t, refused.NotMine)) (cond (is_deletion t.state.aim) (Err (t, refused.Cookie)) (cond (not (c.0 == t.state.careof_cookie.0)) (Err (t, refused.Cookie)) (Ok (weighed (with_careof test t))))))) in
    let D : Bool → Type 0 = λ b. is_deletion t.state.aim ≡ b → (from.0 == t.peer.0) ≡ true → IsAt peer n us more (after_test (cond b (Err (t, refused.Cookie)) (cond (not (c.0 == t.state.careof_cookie.0)) (Err (t, refused.Cookie)) (Ok (weighed (with_careof test t)))))) in
    let R : Bool → Type 0 = λ b. (c.0 == t.state.careof_cookie.0) ≡ b → (from.0 == t.peer.0) ≡ true → IsAt peer n us more (after_test (cond (not b) (Err (t, refused.Cookie)) (Ok (weighed (with_careof test t))))) in
    (elim (from.0 == t.peer.0) as P [
      | true ↦ (elim (is_deletion t.state.aim) as D [
        | true ↦ λ d e1. (k, record { started = p.started; home = p.home; careof = careof_deletion t.state.aim peer t.state.careof_cookie t.state.careof more d })
        | false ↦ λ d e1. (elim (c.0 == t.state.careof_cookie.0) as R [
          | true ↦ λ e2 e1. weigh (with_careof test t) peer n us more (record { of_peer = k.of_peer; next = k.next; recent = k.recent }) (record { started = p.started; home = p.home; careof = careof_put t.state.aim peer t.state.careof_cookie (Some test) more (careof_yes peer from t.state.careof_cookie c test past (at_peer true e1) e2) })
          | false ↦ λ e2 e1. (k, record { started = p.started; home = p.home; careof = careof_on t.state.aim peer t.state.careof_cookie t.state.careof past more (careof_wrong peer from t.state.careof_cookie c test past (at_peer true e1) e2) p.careof })
        ]) refl e1
      ]) refl
      | false ↦ λ e1. (k, record { started = p.started; home = p.home; careof = careof_on t.state.aim peer t.state.careof_cookie t.state.careof past more (careof_other peer from t.state.careof_cookie c test past (at_peer false e1)) p.careof })
    ]) refl

-- an update that was made
made_sequence : (n : ℕ) (tested : Tested) → (made_of n tested).sequence ≡ n
made_sequence n (Both to home careof) = refl
made_sequence n (Home home) = refl

made_kept : {S : Type 0} (now : Moment) (tested : Tested) (t : Trial S) (peer : Address) (n : ℕ) (us : List Update) → IsKept peer n us t → IsKept peer (made_of t.next tested).sequence ((record { at = now; made = made_of t.next tested }) ∷ us) (made_now now tested t).0
unfolding first rest
made_kept now tested t peer n us k = record {
  of_peer = k.of_peer;
  next = ap (λ m. (m + 1) % 65536) (sym (made_sequence t.next tested));
  recent = ap (λ (r : Recent). (let x : Recent = record { newest = Some now; middle = r.newest; oldest = r.middle } in x)) k.recent;
}

update_step : (now : Moment) (t : Trial Proved) (peer : Address) (n : ℕ) (us : List Update) (more : List Call) → IsKept peer n us t → IsTested peer more t.state.tested → IsAt peer (sequence_or (made_in now (updated now t)) n) (with_update (made_in now (updated now t)) us) more (after_update (updated now t))
update_step now t peer n us more k i =
    let Q : Result (Trial Pending × Made) (Trial Proved × Refused) → Type 0 = λ r. IsAt peer (sequence_or (made_in now r) n) (with_update (made_in now r) us) more (after_update r) in
    elim (has_old now t.state.tested) as (λ b. Q (cond b (Err (t, refused.Old)) (cond (is_too_soon now t.recent) (Err (t, refused.TooSoon)) (Ok (made_now now t.state.tested t))))) [
      | true ↦ (k, i)
      | false ↦ elim (is_too_soon now t.recent) as (λ b. Q (cond b (Err (t, refused.TooSoon)) (Ok (made_now now t.state.tested t)))) [
        | true ↦ (k, i)
        | false ↦ (made_kept now t.state.tested t peer n us k, i)
      ]
    ]

again_step : (now : Moment) (t : Trial Pending) (peer : Address) (n : ℕ) (us : List Update) (more : List Call) → IsKept peer n us t → IsTested peer more t.state.tested → IsAt peer (sequence_or (made_in now (made_again now t)) n) (with_update (made_in now (made_again now t)) us) more (after_again (made_again now t))
again_step now t peer n us more k i =
    let Q : Result (Trial Pending × Made) (Trial Pending × Refused) → Type 0 = λ r. IsAt peer (sequence_or (made_in now r) n) (with_update (made_in now r) us) more (after_again r) in
    elim (has_old now t.state.tested) as (λ b. Q (cond b (Err (t, refused.Old)) (cond (is_too_soon now t.recent) (Err (t, refused.TooSoon)) (Ok (made_now now t.state.tested t))))) [
      | true ↦ (k, i)
      | false ↦ elim (is_too_soon now t.recent) as (λ b. Q (cond b (Err (t, refused.TooSoon)) (Ok (made_now now t.state.tested t)))) [
        | true ↦ (k, i)
        | false ↦ (made_kept now t.state.tested t peer n us k, i)
      ]
    ]

end_step : (tested : Tested) (granted : ℕ) (t : Trial Pending) (peer : Address) (n : ℕ) (us : List Update) (more : List Call) → IsKept peer n us t → IsAt peer n us more (after_acknowledgement (Ok (ended_with granted tested t)))
end_step (Home home) granted t peer n us more k = kept_in peer n us t (record {}) k
end_step (Both to home careof) granted t peer n us more k =
    elim (granted == 0) as (λ b. IsAt peer n us more (after_acknowledgement (Ok (cond b (ended.Deleted (in_state (record {}) t)) (ended.Bound (in_state (record { aim = Bind to }) t)))))) [
      | true ↦ kept_in peer n us t (record {}) k
      | false ↦ kept_in peer n us t (record { aim = Bind to }) k
    ]

acknowledged_step : (from : Address) (sequence granted : ℕ) (t : Trial Pending) (peer : Address) (n : ℕ) (us : List Update) (more : List Call) → IsKept peer n us t → IsTested peer more t.state.tested → IsAt peer n us more (after_acknowledgement (acknowledged_as from sequence granted t))
acknowledged_step from sequence granted t peer n us more k i =
    let Q : Result Ended (Trial Pending × Refused) → Type 0 = λ r. IsAt peer n us more (after_acknowledgement r) in
    elim (from.0 == t.peer.0) as (λ b. Q (cond (not b) (Err (t, refused.NotMine)) (cond (not (sequence == t.state.last)) (Err (t, refused.NotMine)) (Ok (ended_with granted t.state.tested t))))) [
      | true ↦ elim (sequence == t.state.last) as (λ b. Q (cond (not b) (Err (t, refused.NotMine)) (Ok (ended_with granted t.state.tested t)))) [
        | true ↦ end_step t.state.tested granted t peer n us more k
        | false ↦ (k, i)
      ]
      | false ↦ (k, i)
    ]

start_careof : (aim : Aim) (peer : Address) (s : Start) (past : List Call) → IsCareofKept aim peer s.careof_cookie None (Started s ∷ past)
start_careof (Bind to) peer s past = refl
start_careof Delete peer s past = tt

step : (call : Call) (t : Any) (peer : Address) (n : ℕ) (us : List Update) (past : List Call) → IsAt peer n us past t → IfSome (called call t) (λ u. IsAt peer (sequence_after call (Some t) n) (with_update (made_by call (Some t)) us) (call ∷ past) u)
step (Started s) (any.Idle t) peer n us past k = (record { of_peer = k.of_peer; next = k.next; recent = k.recent }, record { started = refl; home = refl; careof = start_careof s.aim peer s past })
step (Started s) _ peer n us past k = tt
step (HomeTest from c test) (any.Probing t) peer n us past k = home_step t peer n us past from c test k.0 k.1
step (HomeTest from c test) _ peer n us past k = tt
step (CareofTest from c test) (any.Probing t) peer n us past k = careof_step t peer n us past from c test k.0 k.1
step (CareofTest from c test) _ peer n us past k = tt
step (Updating now) (any.Proved t) peer n us past k = update_step now t peer n us (Updating now ∷ past) k.0 (tested_on t.state.tested peer past (Updating now ∷ past) refl (λ c. refl) (λ c. refl) k.1)
step (Updating now) _ peer n us past k = tt
step (UpdatingAgain now) (any.Pending t) peer n us past k = again_step now t peer n us (UpdatingAgain now ∷ past) k.0 (tested_on t.state.tested peer past (UpdatingAgain now ∷ past) refl (λ c. refl) (λ c. refl) k.1)
step (UpdatingAgain now) _ peer n us past k = tt
step (Acknowledged from sequence granted) (any.Pending t) peer n us past k = acknowledged_step from sequence granted t peer n us (Acknowledged from sequence granted ∷ past) k.0 (tested_on t.state.tested peer past (Acknowledged from sequence granted ∷ past) refl (λ c. refl) (λ c. refl) k.1)
step (Acknowledged from sequence granted) _ peer n us past k = tt
step (Resequence last) (any.Pending t) peer n us past k = (record { of_peer = k.0.of_peer; next = refl; recent = k.0.recent }, tested_on t.state.tested peer past (Resequence last ∷ past) refl (λ c. refl) (λ c. refl) k.1)
step (Resequence last) _ peer n us past k = tt
step GivenUp (any.Idle t) peer n us past k = kept_in peer n us t (record {}) k
step GivenUp (any.Probing t) peer n us past k = kept_in peer n us t (record {}) k.0
step GivenUp (any.Proved t) peer n us past k = kept_in peer n us t (record {}) k.0
step GivenUp (any.Pending t) peer n us past k = kept_in peer n us t (record {}) k.0
step GivenUp (any.Bound t) peer n us past k = kept_in peer n us t (record {}) k

step_of : (call : Call) (o : Option Any) (peer : Address) (n : ℕ) (us : List Update) (past : List Call) → IfSome o (λ t. IsAt peer n us past t) → IfSome (option_and_then (called call) o) (λ u. IsAt peer (sequence_after call o n) (with_update (made_by call o) us) (call ∷ past) u)
step_of call None peer n us past h = tt
step_of call (Some t) peer n us past h = step call t peer n us past h

holds : (past : List Call) (peer : Address) → IfSome (trial_after peer past) (λ t. IsAt peer (last_sequence peer past) (updates peer past) past t)
unfolding first rest
holds [] peer = record { of_peer = refl; next = refl; recent = refl }
holds (call ∷ past) peer = step_of call (trial_after peer past) peer (last_sequence peer past) (updates peer past) past (holds past peer)

-- an update's moment and key
young : (now : Moment) (test : Test) → is_old now test ≡ false → now.0 - test.at.0 < 210000
young now test e = grind (arith, nat_tests)

both_young : (a b : Bool) → cond a true b ≡ false → (a ≡ false) × (b ≡ false)
both_young false b e = (refl, e)
both_young true b e = absurd cc

few_of_three : (a b c : Bool) → (a && (b && c)) ≡ false → 0 + cond a 1 0 + cond b 1 0 + cond c 1 0 < 3
few_of_three true true true e = absurd cc
few_of_three true true false e = omega arith
few_of_three true false true e = omega arith
few_of_three true false false e = omega arith
few_of_three false true true e = omega arith
few_of_three false true false e = omega arith
few_of_three false false true e = omega arith
few_of_three false false false e = omega arith

few_of_two : (a b : Bool) → 0 + cond a 1 0 + cond b 1 0 < 3
few_of_two true true = omega arith
few_of_two true false = omega arith
few_of_two false true = omega arith
few_of_two false false = omega arith

few_of_one : (a : Bool) → 0 + cond a 1 0 < 3
few_of_one true = omega arith
few_of_one false = omega arith

few : (now : Moment) (us : List Update) → is_too_soon now (recent_of us) ≡ false → count_by (λ at. nat_lt (now.0 - at.0) 1000) (take 3 (map (λ v. v.at) us)) < 3
unfolding first rest
few now [] e = omega arith
few now (u ∷ []) e = few_of_one (nat_lt (now.0 - u.at.0) 1000)
few now (u ∷ (v ∷ [])) e = few_of_two (nat_lt (now.0 - u.at.0) 1000) (nat_lt (now.0 - v.at.0) 1000)
few now (u ∷ (v ∷ (w ∷ us))) e = few_of_three (nat_lt (now.0 - u.at.0) 1000) (nat_lt (now.0 - v.at.0) 1000) (nat_lt (now.0 - w.at.0) 1000) e

made_right : {S : Type 0} (tested : Tested) (now : Moment) (t : Trial S) (peer : Address) (past : List Call) → IsKept peer (last_sequence peer past) (updates peer past) t → IsTested peer past tested → has_old now tested ≡ false → is_too_soon now t.recent ≡ false → IsRightUpdate peer past (record { at = now; made = made_of t.next tested })
made_right (Both to home careof) now t peer past k i old soon =
    let youngs = both_young (is_old now home) (is_old now careof) old in
    let u : Update = record { at = now; made = made_of t.next (Both to home careof) } in
    record {
      start = i.start;
      started = i.started;
      home = home;
      home_here = i.tests.1;
      home_young = young now home youngs.0;
      home_token = refl;
      home_index = refl;
      key = subst (λ a. IsOfAim peer i.start a past u) (sym i.tests.0) (careof, i.tests.2, young now careof youngs.1, refl, refl, refl);
      sequence = k.next;
      rate = few now (updates peer past) (subst (λ r. is_too_soon now r ≡ false) k.recent soon);
    }
made_right (Home home) now t peer past k i old soon =
    let u : Update = record { at = now; made = made_of t.next (Home home) } in
    record {
      start = i.start;
      started = i.started;
      home = home;
      home_here = i.tests.1;
      home_young = young now home old;
      home_token = refl;
      home_index = refl;
      key = subst (λ a. IsOfAim peer i.start a past u) (sym i.tests.0) (refl, refl, refl);
      sequence = k.next;
      rate = few now (updates peer past) (subst (λ r. is_too_soon now r ≡ false) k.recent soon);
    }

making_right : {S : Type 0} (tested : Tested) (now : Moment) (t : Trial S) (peer : Address) (past : List Call) → IsKept peer (last_sequence peer past) (updates peer past) t → IsTested peer past tested → IfSome (made_in now (making now tested t)) (λ u. IsRightUpdate peer past u)
making_right tested now t peer past k i =
    let P : Bool → Type 0 = λ b. has_old now tested ≡ b → IfSome (made_in now (cond b (Err (t, refused.Old)) (cond (is_too_soon now t.recent) (Err (t, refused.TooSoon)) (Ok (made_now now tested t))))) (λ u. IsRightUpdate peer past u) in
    let R : Bool → Type 0 = λ b. is_too_soon now t.recent ≡ b → has_old now tested ≡ false → IfSome (made_in now (cond b (Err (t, refused.TooSoon)) (Ok (made_now now tested t)))) (λ u. IsRightUpdate peer past u) in
    (elim (has_old now tested) as P [
      | true ↦ λ old. tt
      | false ↦ (elim (is_too_soon now t.recent) as R [ true ↦ λ soon old. tt | false ↦ λ soon old. made_right tested now t peer past k i old soon ]) refl
    ]) refl

right_at : (call : Call) (o : Option Any) (peer : Address) (past : List Call) → IfSome o (λ t. IsAt peer (last_sequence peer past) (updates peer past) past t) → IfSome (made_by call o) (λ u. IsRightUpdate peer past u)
right_at (Updating now) (Some (any.Proved t)) peer past h = making_right t.state.tested now t peer past h.0 h.1
right_at (UpdatingAgain now) (Some (any.Pending t)) peer past h = making_right t.state.tested now t peer past h.0 h.1
right_at _ _ peer past h = tt

pub right : (peer : Address) (past : List Call) (call : Call) → IfSome (made_by call (trial_after peer past)) (λ u. IsRightUpdate peer past u)
right peer past call = right_at call (trial_after peer past) peer past (holds past peer)
