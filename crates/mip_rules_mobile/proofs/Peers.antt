-- A trial stays one of its peer, whatever is done to it, and the row of a binding is that of its peer.
use Rattle.std.proofs.Common.{◌≡◌, ℕ, zero, suc, List, [], ◌∷◌, length, nat_lt, refl, sym, ap, ◌∙◌, subst, ◌+◌, arith}
use Rattle.std.specs.Prelude.{Option, Some, None, Bool, true, false, not, ◌==◌, cond, if◌then◌else◌, Ok, Err}
use Rattle.std.specs.List.{position_or_len}
use Rattle.std.proofs.lemmas.Bool.{eqb-true}
use Rattle.std.proofs.lemmas.Bool.Decides.{nat_tests}
use Rattle.mip_words.specs.declared.address.Address.{Address}
use Rattle.mip_words.specs.declared.moment.Moment.{Moment}
use Rattle.mip_bulist.specs.declared.aim.Aim.TheVariants.{Bind}
use Rattle.mip_bulist.specs.declared.any.Any.{Any}
use Rattle.mip_bulist.specs.declared.any.Any.TheVariants.{Idle, Probing, Proved, Pending, Bound}
use Rattle.mip_bulist.specs.declared.refused.Refused.TheVariants as refused
use Rattle.mip_bulist.specs.declared.row.Row.{Row}
use Rattle.mip_bulist.specs.declared.state.Pending as pending
use Rattle.mip_bulist.specs.declared.state.Probing as probing
use Rattle.mip_bulist.specs.declared.tested.Tested.{Tested}
use Rattle.mip_bulist.specs.declared.tested.Tested.TheVariants.{Both, Home}
use Rattle.mip_bulist.specs.declared.trial.Ended.TheVariants as ends
use Rattle.mip_bulist.specs.declared.trial.Trial.{Trial}
use Rattle.mip_bulist.specs.declared.work.Work.TheVariants.{Resend}
use Rattle.mip_bulist.specs.Rows.{peer_of_any, row_place, peer_at, lifted, with_trial}
use Rattle.mip_bulist.specs.Trials.{needed, proved_where, weighed, with_home, with_careof, is_deletion, has_old, is_too_soon, made_now, in_state, ended_with}
use Rattle.mip_bulist.proofs.RowLaws.{with_step}
use Rattle.mip_entries.proofs.TransitionLaws.{noted-known}
use Rattle.mip_rules_mobile.specs.Trials.{Change, Start, HomeTest, CareofTest, Make, Resequence, Acknowledge, Rest, after_probe, after_update, after_again, with_update, after_end, changed, changed_at, with_change}
use Rattle.mip_rules_mobile.specs.Steps.{Tries, Stops}
use Rattle.mip_rules_mobile.specs.Known.{Known}
use Rattle.mip_rules_mobile.specs.RowQuestions.{row_of, peer_of_row, trial_of, is_bound_row, if_bound, bound_row_of}
use Rattle.mip_rules_mobile.specs.Questions.{after}
use Rattle.mip_rules_mobile.specs.Transitions.{Transition, noted}
use Rattle.mip_rules_mobile.specs.Fitting.{IsTrialOf}
use Rattle.mip_rules_mobile.specs.Resting.{last_sent}

-- what a kept test leaves
weighed-own : (t : Trial probing.Probing) → peer_of_any (after_probe (Ok (weighed t))) ≡ t.peer
weighed-own t = by (needed t.state.aim t.state.home t.state.careof)
  where
    by : (o : Option Tested) → peer_of_any (after_probe (Ok (proved_where o t))) ≡ t.peer
    by (Some tested) = refl
    by None = refl

module _ (now : Moment) where
  -- what making an update leaves
  made-own : (any : Any) → peer_of_any (with_update now any) ≡ peer_of_any any
  made-own (Idle t) = refl
  made-own (Probing t) = refl
  made-own (Bound t) = refl
  made-own (Proved t) = by (has_old now t.state.tested) (is_too_soon now t.recent)
    where
      by : (old soon : Bool) → peer_of_any (after_update (if old then Err (t, refused.Old) else if soon then Err (t, refused.TooSoon) else Ok (made_now now t.state.tested t))) ≡ t.peer
      by true soon = refl
      by false true = refl
      by false false = refl
  made-own (Pending t) = by (has_old now t.state.tested) (is_too_soon now t.recent)
    where
      by : (old soon : Bool) → peer_of_any (after_again (if old then Err (t, refused.Old) else if soon then Err (t, refused.TooSoon) else Ok (made_now now t.state.tested t))) ≡ t.peer
      by true soon = refl
      by false true = refl
      by false false = refl

  -- whatever is done to a trial, it is of the same peer
  pub changed-own : (change : Change) (any : Any) → peer_of_any (changed now change any) ≡ peer_of_any any
  unfolding changed
  changed-own (Start aim home careof) (Idle t) = refl
  changed-own (Start aim home careof) _ = refl
  changed-own (HomeTest peer cookie test) (Idle t) = refl
  changed-own (HomeTest peer cookie test) (Proved t) = refl
  changed-own (HomeTest peer cookie test) (Pending t) = refl
  changed-own (HomeTest peer cookie test) (Bound t) = refl
  changed-own (HomeTest peer cookie test) (Probing t) = by (not (peer.0 == t.peer.0)) (not (cookie.0 == t.state.home_cookie.0))
    where
      by : (other wrong : Bool) → peer_of_any (after_probe (if other then Err (t, refused.NotMine) else if wrong then Err (t, refused.Cookie) else Ok (weighed (with_home test t)))) ≡ t.peer
      by true wrong = refl
      by false true = refl
      by false false = weighed-own (with_home test t)
  changed-own (CareofTest peer cookie test) (Idle t) = refl
  changed-own (CareofTest peer cookie test) (Proved t) = refl
  changed-own (CareofTest peer cookie test) (Pending t) = refl
  changed-own (CareofTest peer cookie test) (Bound t) = refl
  changed-own (CareofTest peer cookie test) (Probing t) = by (not (peer.0 == t.peer.0)) (is_deletion t.state.aim) (not (cookie.0 == t.state.careof_cookie.0))
    where
      by : (other deletes wrong : Bool)
          → peer_of_any (after_probe (if other then Err (t, refused.NotMine) else if deletes then Err (t, refused.Cookie) else if wrong then Err (t, refused.Cookie) else Ok (weighed (with_careof test t)))) ≡ t.peer
      by true deletes wrong = refl
      by false true wrong = refl
      by false false true = refl
      by false false false = weighed-own (with_careof test t)
  changed-own Make any = made-own any
  changed-own (Resequence last) (Idle t) = refl
  changed-own (Resequence last) _ = refl
  changed-own (Acknowledge sequence granted) (Idle t) = refl
  changed-own (Acknowledge sequence granted) (Probing t) = refl
  changed-own (Acknowledge sequence granted) (Proved t) = refl
  changed-own (Acknowledge sequence granted) (Bound t) = refl
  changed-own (Acknowledge sequence granted) (Pending t) = by (not (t.peer.0 == t.peer.0)) (not (sequence == t.state.last)) t.state.tested
    where
      ended : (to : Address) (none : Bool) → peer_of_any (after_end (Ok (if none then ends.Deleted (in_state (record {}) t) else ends.Bound (in_state (record { aim = Bind to }) t)))) ≡ t.peer
      ended to true = refl
      ended to false = refl

      by : (other wrong : Bool) (tested : Tested) → peer_of_any (after_end (if other then Err (t, refused.NotMine) else if wrong then Err (t, refused.NotMine) else Ok (ended_with granted tested t))) ≡ t.peer
      by true wrong tested = refl
      by false true tested = refl
      by false false (Both to home careof) = ended to (granted == 0)
      by false false (Home home) = refl
  changed-own Rest (Idle t) = refl
  changed-own Rest _ = refl

-- the trial of a row that was changed
put-there : (rows : List Row) (row : ℕ) (any later : Any) → lifted row rows ≡ Some any → lifted row (with_trial row (Some later) rows) ≡ Some later
put-there [] row any later is = absurd cc
put-there (r ∷ rs) zero any later is = refl
put-there (r ∷ rs) (suc k) any later is = ap (lifted (suc k)) (with_step r rs k (Some later)) ∙ put-there rs k any later is

pub changed-there : (rows : List Row) (row : ℕ) (now : Moment) (change : Change) (any : Any) → lifted row rows ≡ Some any → lifted row (with_change row now change rows) ≡ Some (changed now change any)
unfolding with_change
changed-there rows row now change any is =
    ap (λ (o : Option Any). lifted row (changed_at o row now change rows)) is ∙ put-there rows row any (changed now change any) is

trial-stopped : (row : ℕ) (t : Transition) → trial_of (noted (Stops (Resend row)) t).known row ≡ trial_of t.known row
unfolding after
trial-stopped row t = ap (λ (k : Known). trial_of k row) (noted-known after (Stops (Resend row)) t)

trial-changed : (row : ℕ) (change : Change) (t : Transition) (any : Any) → trial_of t.known row ≡ Some any
    → trial_of (noted (Tries row change) t).known row ≡ Some (changed (record { 0 = t.now }) change any)
unfolding after
trial-changed row change t any is =
    ap (λ (k : Known). trial_of k row) (noted-known after (Tries row change) t) ∙ changed-there t.known.list.rows row (record { 0 = t.now }) change any is

-- a trial whose update was acknowledged is still of its peer
pub trial-granted : (row : ℕ) (u : Trial pending.Pending) (sequence lifetime : ℕ) (t : Transition) → trial_of t.known row ≡ Some (Pending u)
    → IsTrialOf (trial_of (noted (Tries row (Acknowledge sequence lifetime)) (noted (Stops (Resend row)) t)).known row) u.peer
trial-granted row u sequence lifetime t is =
    let first : Transition = noted (Stops (Resend row)) t in
    subst (λ (o : Option Any). IsTrialOf o u.peer) (sym (trial-changed row (Acknowledge sequence lifetime) first (Pending u) (trial-stopped row t ∙ is)))
    (changed-own (record { 0 = first.now }) (Acknowledge sequence lifetime) (Pending u))

-- and it was sent when its update was
ended-sent : (sequence granted : ℕ) (now : Moment) (u : Trial pending.Pending) → last_sent (Some (changed now (Acknowledge sequence granted) (Pending u))) ≡ u.recent.newest
unfolding changed
ended-sent sequence granted now u = by (not (u.peer.0 == u.peer.0)) (not (sequence == u.state.last)) u.state.tested
  where
    ended : (to : Address) (none : Bool) → last_sent (Some (after_end (Ok (if none then ends.Deleted (in_state (record {}) u) else ends.Bound (in_state (record { aim = Bind to }) u))))) ≡ u.recent.newest
    ended to true = refl
    ended to false = refl

    by : (other wrong : Bool) (tested : Tested) → last_sent (Some (after_end (if other then Err (u, refused.NotMine) else if wrong then Err (u, refused.NotMine) else Ok (ended_with granted tested u)))) ≡ u.recent.newest
    by true wrong tested = refl
    by false true tested = refl
    by false false (Both to home careof) = ended to (granted == 0)
    by false false (Home home) = refl

pub sent-granted : (row : ℕ) (u : Trial pending.Pending) (sequence lifetime : ℕ) (t : Transition) → trial_of t.known row ≡ Some (Pending u)
    → last_sent (trial_of (noted (Tries row (Acknowledge sequence lifetime)) (noted (Stops (Resend row)) t)).known row) ≡ u.recent.newest
sent-granted row u sequence lifetime t is =
    let first : Transition = noted (Stops (Resend row)) t in
    ap last_sent (trial-changed row (Acknowledge sequence lifetime) first (Pending u) (trial-stopped row t ∙ is))
    ∙ ended-sent sequence lifetime (record { 0 = first.now }) u

found : (b : Bool) (x y : ℕ) → b ≡ true → cond b (Some x) None ≡ Some y → x ≡ y
found true x y is e = cc
found false x y is e = absurd cc

-- the row of a peer is of this peer
pub placed-own : (peer : Address) (rows : List Row) (row : ℕ) → row_place peer rows ≡ Some row → peer_at row rows ≡ Some peer
placed-own peer [] row is = absurd cc
placed-own peer (r ∷ rs) row is = by (λ at e. placed-own peer rs at e) (r.peer.0 == peer.0) refl row is
  where
    n : ℕ
    n = position_or_len (λ (x : Row). x.peer.0 == peer.0) rs

    later : (row : ℕ) (b c : Bool) → nat_lt (1 + n) (suc (length rs)) ≡ b → nat_lt n (length rs) ≡ c → cond b (Some (1 + n)) None ≡ Some row
        → ((at : ℕ) → cond c (Some n) None ≡ Some at → peer_at at rs ≡ Some peer) → peer_at row (r ∷ rs) ≡ Some peer
    later row true true is less e rest = let same : 1 + n ≡ row = cc in
        let next : suc n ≡ 1 + n = omega arith in
        subst (λ (i : ℕ). peer_at i (r ∷ rs) ≡ Some peer) (next ∙ same) (rest n refl)
    later row true false is less e rest = absurd (let never : ⊥ = grind (arith, nat_tests) in never)
    later row false c is less e rest = absurd cc

    by : ((at : ℕ) → row_place peer rs ≡ Some at → peer_at at rs ≡ Some peer) → (same : Bool) → (r.peer.0 == peer.0) ≡ same → (row : ℕ) → cond (nat_lt (cond (not same) (1 + n) 0) (suc (length rs))) (Some (cond (not same) (1 + n) 0)) None ≡ Some row → peer_at row (r ∷ rs) ≡ Some peer
    by again true same row e =
        let own : r.peer ≡ peer = ap (λ (a : ℕ). record { 0 = a }) (eqb-true r.peer.0 peer.0 same) in
        let at : 0 ≡ row = found (nat_lt 0 (suc (length rs))) 0 row (grind (arith, nat_tests)) e in
        subst (λ (i : ℕ). peer_at i (r ∷ rs) ≡ Some peer) at (ap (λ (a : Address). Some a) own)
    by again false other row e =
        later row (nat_lt (1 + n) (suc (length rs))) (nat_lt n (length rs)) refl refl e again

pub bound-placed : (k : Known) (now : ℕ) (peer : Address) (row : ℕ) → bound_row_of k now peer ≡ Some row → peer_of_row k row ≡ Some peer
bound-placed k now peer row is = by (row_of k peer) refl is
  where
    kept : (at : ℕ) (bound : Bool) → row_of k peer ≡ Some at → (if bound then Some at else None) ≡ Some row → peer_of_row k row ≡ Some peer
    kept at true placed e = let same : at ≡ row = cc in placed-own peer k.list.rows row (placed ∙ ap (λ (i : ℕ). Some i) same)
    kept at false placed e = absurd cc

    by : (o : Option ℕ) → row_of k peer ≡ o → if_bound k now o ≡ Some row → peer_of_row k row ≡ Some peer
    by None placed e = absurd cc
    by (Some at) placed e = kept at (is_bound_row k now at) placed e
