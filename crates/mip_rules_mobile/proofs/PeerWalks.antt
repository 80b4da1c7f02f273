-- What steady steps and acknowledgements keep, the rules for a peer's messages keep; a message that is not taken is dropped at
-- once.
use Rattle.std.proofs.Common.{◌≡◌, ℕ, ◌+◌, List, refl, sym, ap, arith}
use Rattle.std.specs.Prelude.{◌≢◌, ◌*◌, Option, Some, None, Bool, true, false, ◌==◌, ◌&&◌, not, is_some, if◌then◌else◌, Result, Ok, Err}
use Rattle.std.specs.Option.{option_map_or}
use Rattle.std.proofs.lemmas.Bool.{eqb-false}
use Rattle.mip_words.specs.declared.address.Address.{Address}
use Rattle.mip_words.specs.declared.moment.Moment.{Moment}
use Rattle.mip_words.specs.declared.why.Why.{Why}
use Rattle.mip_words.specs.declared.why.Why.TheVariants as whys
use Rattle.mip_entries.specs.Reasons.{is_dropped_why}
use Rattle.mip_bulist.specs.declared.any.Any.{Any}
use Rattle.mip_bulist.specs.declared.any.Any.TheVariants.{Pending}
use Rattle.mip_bulist.specs.declared.list_full.ListFull.{ListFull}
use Rattle.mip_bulist.specs.declared.state.Pending as pending
use Rattle.mip_bulist.specs.declared.tested.Test.{Test}
use Rattle.mip_bulist.specs.declared.trial.Trial.{Trial}
use Rattle.mip_bulist.specs.declared.work.Work.TheVariants.{Resend}
use Rattle.mip_bulist.specs.Rows.{given_row}
use Rattle.mip_words.specs.Constants.{initial_bindack_timeout, lifetime_unit}
use Rattle.mip_rules_mobile.specs.Timing.{refresh_unit}
use Rattle.mip_reception.specs.Statuses.{accepts_it, sequence_out_of_window}
use Rattle.mip_rules_mobile.specs.Calls.{Call}
use Rattle.mip_rules_mobile.specs.Trials.{HomeTest, CareofTest, Resequence, Acknowledge, Rest, binds_to, sent_at, is_idle}
use Rattle.mip_rules_mobile.specs.Steps.{Step, Drops, Meets, Tries, Forgets, Unbinds, Stops}
use Rattle.mip_rules_mobile.specs.HomeQuestions.{home_of, registration_of}
use Rattle.mip_rules_mobile.specs.RowQuestions.{row_of, trial_of, is_bound_row, bound_row_of}
use Rattle.mip_rules_mobile.specs.TimerQuestions.{later}
use Rattle.mip_rules_mobile.specs.Transitions.{Transition, noted}
use Rattle.mip_rules_mobile.specs.TrialRules.{starts, updates}
use Rattle.mip_rules_mobile.specs.PeerRules.{tells_of_nonces, begins_at, meets, comes_right, test_at, cookie, home_row, careof_row, keeps_home, keeps_careof, takes_home_test, takes_careof_test, acknowledges, binds_from, ends_for, is_granted, rests, takes_peer_ack, acks_trial, acks_row, takes_ack_of, loses, takes_error, renews, takes_refresh}
use Rattle.mip_rules_mobile.specs.Trusting.{IsAcknowledged}
use Rattle.mip_rules_mobile.specs.Resting.{last_sent, IsBoundBehind, last_step}
use Rattle.mip_rules_mobile.specs.Fitting.{IsHanded}
use Rattle.mip_rules_mobile.proofs.Trusts.{last-noted, acknowledged-stops}
use Rattle.mip_rules_mobile.proofs.Steady.{Goes}
use Rattle.mip_rules_mobile.proofs.Peers.{trial-granted, sent-granted, bound-placed}
use Rattle.mip_rules_mobile.proofs.TrialWalks.{every-starts, every-updates}
use Rattle.mip_rules_mobile.proofs.HomeWalks.{Acks}

module _ (c : Call) (P : Transition → Type 0) (more : Goes c P) where
  pub every-meets : (peer : Address) (t : Transition) → P t → P (meets peer t)
  unfolding meets
  every-meets peer t p = by (given_row peer t.known.list.rows)
    where
      first : Transition
      first = noted (Meets peer) t

      q : P first
      q = more (Meets peer) t refl tt p

      if-due : (due : Bool) (row : ℕ) → P (if due then starts row first else first)
      if-due true row = every-starts c P more row first q
      if-due false row = q

      by : (r : Result ℕ ListFull) → P (begins_at r first)
      by (Ok row) = if-due (is_idle (trial_of first.known row) && (not (is_bound_row first.known first.now row) && is_some (registration_of first.known first.now))) row
      by (Err full) = q

  pub every-rests : (row : ℕ) (t : Transition) → P t → P (rests row t)
  unfolding rests
  every-rests row t p = more (Tries row Rest) (noted (Stops (Resend row)) t) refl tt (more (Stops (Resend row)) t refl refl p)

  module _ (acks : Acks c P) where
    every-granted : (row : ℕ) (u : Trial pending.Pending) (sequence lifetime : ℕ) (t : Transition) → trial_of t.known row ≡ Some (Pending u) → IsAcknowledged c t.known t.now row sequence lifetime → P t
        → P (is_granted row u sequence lifetime t)
    unfolding is_granted
    every-granted row u sequence lifetime t pending acknowledged p = by (binds_to u)
      where
        step : Step
        step = Tries row (Acknowledge sequence lifetime)

        first : Transition
        first = noted step (noted (Stops (Resend row)) t)

        q : P first
        q = more step (noted (Stops (Resend row)) t) refl (acknowledged-stops c (Resend row) row sequence lifetime t acknowledged) (more (Stops (Resend row)) t refl refl p)

        sent : ℕ
        sent = option_map_or (λ (m : Moment). m.0) (sent_at u) first.now

        same : sent ≡ option_map_or (λ (m : Moment). m.0) (last_sent (trial_of first.known row)) first.now
        same = ap (λ (o : Option Moment). option_map_or (λ (m : Moment). m.0) o first.now) (sym (sent-granted row u sequence lifetime t pending))

        led : lifetime ≢ 0 → IsBoundBehind first.known first.now (last_step None first.steps) row (later sent (lifetime_unit * lifetime)) (later sent (refresh_unit * lifetime))
        led some = record {
          sequence = sequence;
          granted = lifetime;
          behind = last-noted step (noted (Stops (Resend row)) t);
          some = some;
          ends = ap (λ (n : ℕ). n + 4000 * lifetime) same;
          renews = ap (λ (n : ℕ). n + 3000 * lifetime) same;
        }

        if-none : (none : Bool) → (lifetime == 0) ≡ none → P (if none then first else binds_from u row lifetime first)
        if-none true is = q
        if-none false is = acks _ first refl (trial-granted row u sequence lifetime t pending) (led (λ none. eqb-false lifetime 0 is none)) q

        by : (to : Option Address) → P (ends_for to u row lifetime first)
        by None = more (Forgets row) first refl tt q
        by (Some careof) = if-none (lifetime == 0) refl

    every-peer_ack : (row : ℕ) (u : Trial pending.Pending) (status sequence lifetime : ℕ) (t : Transition) → trial_of t.known row ≡ Some (Pending u)
        → (accepts_it status ≡ true → IsAcknowledged c t.known t.now row sequence lifetime) → P t → P (takes_peer_ack row u status sequence lifetime t)
    unfolding takes_peer_ack
    every-peer_ack row u status sequence lifetime t pending acknowledged p = by (accepts_it status) (status == sequence_out_of_window) (tells_of_nonces status) refl
      where
        by : (accepted behind expired : Bool) → accepts_it status ≡ accepted → P (if accepted then is_granted row u sequence lifetime t else if behind then updates row initial_bindack_timeout (noted (Tries row (Resequence sequence)) t) else if expired then starts row t else rests row t)
        by true behind expired low = every-granted row u sequence lifetime t pending (acknowledged low) p
        by false true expired low = every-updates c P more row initial_bindack_timeout (noted (Tries row (Resequence sequence)) t) (omega arith) (more (Tries row (Resequence sequence)) t refl tt p)
        by false false true low = every-starts c P more row t p
        by false false false low = every-rests row t p

    module _ (Q : Transition → Type 0) (done : (u : Transition) → P u → Q u) (t : Transition) (p : P t) (drops : (number : ℕ) (why : Why) → is_dropped_why why ≡ true → Q (noted (Drops number why) t)) where
      pub every-home_test : (number : ℕ) (tunnelled : Bool) (peer : Address) (index c' : ℕ) (token : List ℕ) → (comes_right t.known.standing tunnelled ≡ true → IsHanded c t.now t.known 0 (test_at t.now index token))
          → Q (takes_home_test number tunnelled peer index c' token t)
      unfolding takes_home_test
      every-home_test number tunnelled peer index c' token handed = by (comes_right t.known.standing tunnelled) refl (home_row t.known peer (cookie c') test (row_of t.known peer))
        where
          test : Test
          test = test_at t.now index token

          by : (right : Bool) → comes_right t.known.standing tunnelled ≡ right → (row : Option ℕ) → Q (if right then keeps_home number peer (cookie c') test row t else noted (Drops number whys.Cookie) t)
          by true is None = drops number whys.Cookie refl
          by true is (Some row) =
              let step : Step = Tries row (HomeTest peer (cookie c') test) in
              done (updates row initial_bindack_timeout (noted step t)) (every-updates c P more row initial_bindack_timeout (noted step t) (omega arith) (more step t refl (handed is) p))
          by false is row = drops number whys.Cookie refl

      pub every-careof_test : (number : ℕ) (tunnelled : Bool) (peer : Address) (index c' : ℕ) (token : List ℕ) → IsHanded c t.now t.known 1 (test_at t.now index token) → Q (takes_careof_test number tunnelled peer index c' token t)
      unfolding takes_careof_test
      every-careof_test number tunnelled peer index c' token handed = by (comes_right t.known.standing (not tunnelled)) (careof_row t.known peer (cookie c') test (row_of t.known peer))
        where
          test : Test
          test = test_at t.now index token

          by : (right : Bool) (row : Option ℕ) → Q (if right then keeps_careof number peer (cookie c') test row t else noted (Drops number whys.Cookie) t)
          by true None = drops number whys.Cookie refl
          by true (Some row) =
              let step : Step = Tries row (CareofTest peer (cookie c') test) in
              done (updates row initial_bindack_timeout (noted step t)) (every-updates c P more row initial_bindack_timeout (noted step t) (omega arith) (more step t refl handed p))
          by false row = drops number whys.Cookie refl

      pub every-ack_of : (number : ℕ) (peer : Address) (status sequence lifetime : ℕ) (authenticator : Option (List ℕ)) (message : List ℕ)
          → ((row : ℕ) (u : Trial pending.Pending) → row_of t.known peer ≡ Some row → trial_of t.known row ≡ Some (Pending u)
          → acknowledges (home_of t.known) status sequence authenticator message u ≡ true → accepts_it status ≡ true → IsAcknowledged c t.known t.now row sequence lifetime)
          → Q (takes_ack_of number peer status sequence lifetime authenticator message t)
      unfolding takes_ack_of
      every-ack_of number peer status sequence lifetime authenticator message acknowledged = by (row_of t.known peer) refl
        where
          home : Address
          home = home_of t.known

          pend : (row : ℕ) (u : Trial pending.Pending) (mine : Bool) → row_of t.known peer ≡ Some row → trial_of t.known row ≡ Some (Pending u)
              → acknowledges home status sequence authenticator message u ≡ mine → Q (if mine then takes_peer_ack row u status sequence lifetime t else noted (Drops number whys.Ack) t)
          pend row u true placed is right =
              done (takes_peer_ack row u status sequence lifetime t) (every-peer_ack row u status sequence lifetime t is (λ low. acknowledged row u placed is right low) p)
          pend row u false placed is right = drops number whys.Ack refl

          of : (row : ℕ) (o : Option Any) → row_of t.known peer ≡ Some row → trial_of t.known row ≡ o → Q (acks_trial number row home status sequence lifetime authenticator message o t)
          of row (Some (Pending u)) placed is = pend row u (acknowledges home status sequence authenticator message u) placed is refl
          of row _ placed is = drops number whys.Ack refl

          by : (o : Option ℕ) → row_of t.known peer ≡ o → Q (acks_row number o status sequence lifetime authenticator message t)
          by None placed = drops number whys.Ack refl
          by (Some row) placed = of row (trial_of t.known row) placed refl

      pub every-error : (number : ℕ) (peer : Address) (status : ℕ) (home : Address) → Q (takes_error number peer status home t)
      unfolding takes_error
      every-error number peer status home = by ((status == 1) && (home.0 == (home_of t.known).0)) (bound_row_of t.known t.now peer) refl
        where
          by : (mine : Bool) (o : Option ℕ) → bound_row_of t.known t.now peer ≡ o → Q (if mine then loses number o peer t else noted (Drops number whys.Error) t)
          by true None is = drops number whys.Error refl
          by true (Some row) is =
              done (rests row (noted (Unbinds row peer) t))
              (every-rests row (noted (Unbinds row peer) t) (more (Unbinds row peer) t refl (bound-placed t.known t.now peer row is) p))
          by false o is = drops number whys.Error refl

      pub every-refresh : (number : ℕ) (peer : Address) → Q (takes_refresh number peer t)
      unfolding takes_refresh
      every-refresh number peer = by (bound_row_of t.known t.now peer)
        where
          by : (o : Option ℕ) → Q (renews number o t)
          by None = drops number whys.Refresh refl
          by (Some row) = done (starts row t) (every-starts c P more row t p)
