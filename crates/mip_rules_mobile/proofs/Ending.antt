-- A timer is set for the end of the registration and of each binding, and a tick leaves none behind its end.
use Rattle.std.proofs.Common.{◌≡◌, ◌≢◌, ℕ, ◌+◌, ◌<◌, ◌≤◌, zero, suc, List, [], ◌∷◌, ◌++◌, length, take, drop, Bool, true, false, ◌⊎◌, inl, inr, refl, sym, ap, ◌∙◌, subst, arith}
use Rattle.std.specs.Prelude.{◌*◌, Option, Some, None, is_some, not, ◌==◌, nat_lt, unwrap_or, cond, if◌then◌else◌, IfSome}
use Rattle.std.proofs.lemmas.Bool.{eqb-true, eqb-false}
use Rattle.std.proofs.lemmas.Bool.Decides.{nat_tests}
use Rattle.std.proofs.lemmas.List.{take-append-drop}
use Rattle.mip_words.specs.declared.address.Address.{Address}
use Rattle.mip_words.specs.declared.moment.Moment.{Moment}
use Rattle.mip_nonce.specs.Secrets.{Life}
use Rattle.mip_bulist.specs.declared.any.Any.{Any}
use Rattle.mip_bulist.specs.declared.home_timer.HomeTimer.TheVariants as home_timers
use Rattle.mip_bulist.specs.declared.row.Row.{Row}
use Rattle.mip_bulist.specs.declared.timer.Timer.{Timer}
use Rattle.mip_bulist.specs.declared.work.Work.{Work}
use Rattle.mip_bulist.specs.declared.work.Work.TheVariants.{Resend, Renew, End, Home}
use Rattle.mip_bulist.specs.Rows.{peer_at, lifted, with_row}
use Rattle.mip_bulist.specs.Timers.{number_of, is_of, without_timer, with_timer, place_of, due_work, without_due, AreDueFrom, AreInOrder}
use Rattle.mip_bulist.proofs.RowLaws.{peer_kept, peer_stays}
use Rattle.mip_rules_mobile.specs.declared.registered.Registered.{Registered}
use Rattle.mip_rules_mobile.specs.Calls as calls
use Rattle.mip_rules_mobile.specs.Calls.{Call}
use Rattle.mip_rules_mobile.specs.Trials.{Change, Make, Rest, is_bound, with_change, changed, changed_at}
use Rattle.mip_rules_mobile.specs.Steps.{Step, Called, Parts, Notes, Drops, Arrives, FindsTaken, Detaches, Restarts, Registers, Unregisters, Meets, Tries, Updates, Binds, Unbinds, Waits, Stops, Rings}
use Rattle.mip_rules_mobile.specs.Known.{Known}
use Rattle.mip_rules_mobile.specs.HomeQuestions.{registered_said}
use Rattle.mip_rules_mobile.specs.RowQuestions.{rows_after, peer_of_row, trial_of}
use Rattle.mip_rules_mobile.specs.TimerQuestions.{later, moment, timers_after}
use Rattle.mip_rules_mobile.specs.Questions.{after, known}
use Rattle.mip_rules_mobile.specs.Transitions.{Transition, begun, noted}
use Rattle.mip_rules_mobile.specs.RingingRules.{ends_home, ends_at, ends_row, does_work, rings, rings_on, ticks, ticks_all}
use Rattle.mip_rules_mobile.specs.Doing.{does, transition_of}
use Rattle.mip_rules_mobile.specs.Wording.{bound_said, bound_at}
use Rattle.mip_rules_mobile.specs.Fitting.{Fits, IsTrialOf, is_end}
use Rattle.mip_rules_mobile.specs.EndingLaws.{due_of, AreTimed, LieAhead}
use Rattle.mip_rules_mobile.proofs.Wording.{length-after, lost, bound-row}
use Rattle.mip_rules_mobile.proofs.Steady.{Goes}
use Rattle.mip_rules_mobile.proofs.RingWalks.{every-work}
use Rattle.mip_rules_mobile.proofs.Walks.{every-call}
use Rattle.mip_rules_mobile.proofs.Timers.{tick-empties}
use Rattle.mip_entries.proofs.TransitionLaws.{noted-known}

-- two works of different numbers
module _ (w : Work) where
  -- a timer of another work changes nothing
  due-mid : (t : Timer) (xs ys : List Timer) → is_of w t ≡ false → due_of w (xs ++ t ∷ ys) ≡ due_of w (xs ++ ys)
  due-mid t [] ys other = ap (λ (b : Bool). if b then Some t.due else due_of w ys) other
  due-mid t (x ∷ xs) ys other = ap (λ (o : Option Moment). if is_of w x then Some x.due else o) (due-mid t xs ys other)

  -- one of this work is found where there is no other
  due-own : (t : Timer) (xs ys : List Timer) → is_of w t ≡ true → due_of w (xs ++ ys) ≡ None → due_of w (xs ++ t ∷ ys) ≡ Some t.due
  due-own t [] ys own none = ap (λ (b : Bool). if b then Some t.due else due_of w ys) own
  due-own t (x ∷ xs) ys own none = by (is_of w x) none (λ is. due-own t xs ys own is)
    where
      by : (b : Bool) → (if b then Some x.due else due_of w (xs ++ ys)) ≡ None → (due_of w (xs ++ ys) ≡ None → due_of w (xs ++ t ∷ ys) ≡ Some t.due) → (if b then Some x.due else due_of w (xs ++ t ∷ ys)) ≡ Some t.due
      by true is on = absurd cc
      by false is on = on is

  due-without : (ts : List Timer) → due_of w (without_timer w ts) ≡ None
  due-without [] = refl
  due-without (t ∷ ts) = by (is_of w t) refl (due-without ts)
    where
      by : (b : Bool) → is_of w t ≡ b → due_of w (without_timer w ts) ≡ None → due_of w (cond (not b) (t ∷ without_timer w ts) (without_timer w ts)) ≡ None
      by true is rest = rest
      by false is rest = ap (λ (b : Bool). if b then Some t.due else due_of w (without_timer w ts)) is ∙ rest

  due-with : (due : Moment) (ts : List Timer) → due_of w (with_timer due w ts) ≡ Some due
  due-with due ts =
      let t : Timer = record { due = due; work = w } in
      let us = without_timer w ts in
      let n = place_of due us in
      let whole : us ≡ take n us ++ drop n us = sym (take-append-drop n us) in
      let own : (number_of w == number_of w) ≡ true = grind (arith, nat_tests) in
      due-own t (take n us) (drop n us) own (ap (due_of w) (sym whole) ∙ due-without ts)

  module _ (v : Work) (apart : number_of v ≢ number_of w) where
    other-than : (t : Timer) → is_of v t ≡ true → is_of w t ≡ false
    other-than t is = by (is_of w t) refl
      where
        by : (b : Bool) → is_of w t ≡ b → b ≡ false
        by true e = absurd (apart (sym (eqb-true (number_of t.work) (number_of v) is) ∙ eqb-true (number_of t.work) (number_of w) e))
        by false e = refl

    due-without_other : (ts : List Timer) → due_of w (without_timer v ts) ≡ due_of w ts
    due-without_other [] = refl
    due-without_other (t ∷ ts) = by (is_of v t) refl (due-without_other ts)
      where
        by : (b : Bool) → is_of v t ≡ b → due_of w (without_timer v ts) ≡ due_of w ts → due_of w (cond (not b) (t ∷ without_timer v ts) (without_timer v ts)) ≡ (if is_of w t then Some t.due else due_of w ts)
        by true is rest = rest ∙ sym (ap (λ (b : Bool). if b then Some t.due else due_of w ts) (other-than t is))
        by false is rest = ap (λ (o : Option Moment). if is_of w t then Some t.due else o) rest

    due-with_other : (due : Moment) (ts : List Timer) → due_of w (with_timer due v ts) ≡ due_of w ts
    due-with_other due ts =
        let t : Timer = record { due = due; work = v } in
        let us = without_timer v ts in
        let n = place_of due us in
        let whole : us ≡ take n us ++ drop n us = sym (take-append-drop n us) in
        let own : (number_of v == number_of v) ≡ true = grind (arith, nat_tests) in
        due-mid t (take n us) (drop n us) (other-than t own) ∙ ap (due_of w) (sym whole) ∙ due-without_other ts

  -- a timer that rings
  due-rings : (now : ℕ) (work : Work) (ts : List Timer) → due_work (moment now) ts ≡ Some work → number_of work ≢ number_of w → due_of w (without_due (moment now) ts) ≡ due_of w ts
  due-rings now work [] is apart = absurd cc
  due-rings now work (t ∷ ts) is apart = by (nat_lt now t.due.0) is
    where
      by : (b : Bool) → (if b then None else Some t.work) ≡ Some work → due_of w (if b then t ∷ ts else ts) ≡ (if is_of w t then Some t.due else due_of w ts)
      by true e = absurd cc
      by false e =
          let same : t.work ≡ work = cc in
          let first : (number_of t.work == number_of work) ≡ true = subst (λ (x : Work). (number_of t.work == number_of x) ≡ true) same (grind (arith, nat_tests)) in
          sym (ap (λ (b : Bool). if b then Some t.due else due_of w ts) (other-than work apart t first))

  -- where all that is set is due later, so is this work
  due-later : (now : ℕ) (end : Moment) (ts : List Timer) → AreDueFrom (now + 1) ts → due_of w ts ≡ Some end → now < end.0
  due-later now end [] from is = absurd cc
  due-later now end (t ∷ ts) from is = by (is_of w t) is (λ e. due-later now end ts from.1 e)
    where
      by : (b : Bool) → (if b then Some t.due else due_of w ts) ≡ Some end → (due_of w ts ≡ Some end → now < end.0) → now < end.0
      by true e on = let same : t.due ≡ end = cc in let le : now + 1 ≤ t.due.0 = from.0 in subst (λ (m : Moment). now < m.0) same (omega (arith, le))
      by false e on = on e

-- no other work has the number of an end
home-apart : (v : Work) → is_end v ≡ false → number_of v ≢ 11
home-apart (Resend row) is = λ e. let f : 4 * row ≡ 11 = e in omega (arith, f)
home-apart (Renew row) is = λ e. let f : 4 * row + 1 ≡ 11 = e in omega (arith, f)
home-apart (End row) is = absurd cc
home-apart (Home home_timers.Resend) is = λ e. absurd cc
home-apart (Home home_timers.Renew) is = λ e. absurd cc
home-apart (Home home_timers.End) is = absurd cc
home-apart (Home home_timers.Discover) is = λ e. absurd cc

row-apart : (row : ℕ) (v : Work) → is_end v ≡ false → number_of v ≢ number_of (End row)
row-apart row (Resend at) is = λ e. let f : 4 * at ≡ 4 * row + 2 = e in omega (arith, f)
row-apart row (Renew at) is = λ e. let f : 4 * at + 1 ≡ 4 * row + 2 = e in omega (arith, f)
row-apart row (End at) is = absurd cc
row-apart row (Home home_timers.Resend) is = λ e. let f : 3 ≡ 4 * row + 2 = e in omega (arith, f)
row-apart row (Home home_timers.Renew) is = λ e. let f : 7 ≡ 4 * row + 2 = e in omega (arith, f)
row-apart row (Home home_timers.End) is = absurd cc
row-apart row (Home home_timers.Discover) is = λ e. let f : 15 ≡ 4 * row + 2 = e in omega (arith, f)

end-apart : (row : ℕ) → number_of (End row) ≢ 11
end-apart row = λ e. let f : 4 * row + 2 ≡ 11 = e in omega (arith, f)

ends-apart : (at row : ℕ) → at ≢ row → number_of (End at) ≢ number_of (End row)
ends-apart at row other = λ e. let f : 4 * at + 2 ≡ 4 * row + 2 = e in other (omega (arith, f))

-- what each step makes of the timers of the ends: it says of them what it says of the registration and of the bindings
abbrev is_ring : Step → Bool
is_ring (Rings work) = true
is_ring _ = false

home-row : (c : Call) (now : ℕ) (k : Known) (step : Step) (ts : List Timer) → is_ring step ≡ false → registered_said step ≡ None → Fits c now k step
    → due_of (Home home_timers.End) (timers_after ts now step) ≡ due_of (Home home_timers.End) ts
home-row c now k (Waits work wait) ts other silent fits = due-with_other (Home home_timers.End) work (home-apart work fits.1) (later now wait) ts
home-row c now k (Stops work) ts other silent fits = due-without_other (Home home_timers.End) work (home-apart work fits) ts
home-row c now k (Rings work) ts other silent fits = absurd cc
home-row c now k (Registers agent end renew) ts other silent fits = absurd cc
home-row c now k (Binds row peer end renew) ts other silent fits =
    due-with_other (Home home_timers.End) (End row) (end-apart row) end (with_timer renew (Renew row) ts)
    ∙ due-with_other (Home home_timers.End) (Renew row) (home-apart (Renew row) refl) renew ts
home-row c now k (Unbinds row peer) ts other silent fits =
    due-without_other (Home home_timers.End) (End row) (end-apart row) (without_timer (Renew row) ts)
    ∙ due-without_other (Home home_timers.End) (Renew row) (home-apart (Renew row) refl) ts
home-row c now k Detaches ts other silent fits = absurd cc
home-row c now k (Restarts secrets) ts other silent fits = absurd cc
home-row c now k _ ts other silent fits = refl

end-row : (row : ℕ) (c : Call) (now : ℕ) (k : Known) (step : Step) (ts : List Timer) → is_ring step ≡ false → Fits c now k step
    → due_of (End row) (timers_after ts now step) ≡ unwrap_or (bound_said row step) (due_of (End row) ts)
end-row row c now k (Waits (Resend at) wait) ts other fits = due-with_other (End row) (Resend at) (row-apart row (Resend at) refl) (later now wait) ts
end-row row c now k (Waits work wait) ts other fits = due-with_other (End row) work (row-apart row work fits.1) (later now wait) ts
end-row row c now k (Stops work) ts other fits = due-without_other (End row) work (row-apart row work fits) ts
end-row row c now k (Rings work) ts other fits = absurd cc
end-row row c now k (Registers agent end renew) ts other fits =
    due-with_other (End row) (Home home_timers.End) (λ e. end-apart row (sym e)) end (with_timer renew (Home home_timers.Renew) ts)
    ∙ due-with_other (End row) (Home home_timers.Renew) (row-apart row (Home home_timers.Renew) refl) renew ts
end-row row c now k (Binds at peer end renew) ts other fits = by (at == row) refl
  where
    by : (b : Bool) → (at == row) ≡ b → due_of (End row) (with_timer end (End at) (with_timer renew (Renew at) ts)) ≡ unwrap_or (if b then Some (Some end) else None) (due_of (End row) ts)
    by true is = subst (λ (n : ℕ). due_of (End row) (with_timer end (End n) (with_timer renew (Renew at) ts)) ≡ Some end) (sym (eqb-true at row is)) (due-with (End row) end (with_timer renew (Renew at) ts))
    by false is =
        due-with_other (End row) (End at) (ends-apart at row (eqb-false at row is)) end (with_timer renew (Renew at) ts)
        ∙ due-with_other (End row) (Renew at) (row-apart row (Renew at) refl) renew ts
end-row row c now k (Unbinds at peer) ts other fits = by (at == row) refl
  where
    by : (b : Bool) → (at == row) ≡ b → due_of (End row) (without_timer (End at) (without_timer (Renew at) ts)) ≡ unwrap_or (if b then Some None else None) (due_of (End row) ts)
    by true is = subst (λ (n : ℕ). due_of (End row) (without_timer (End n) (without_timer (Renew at) ts)) ≡ None) (sym (eqb-true at row is)) (due-without (End row) (without_timer (Renew at) ts))
    by false is =
        due-without_other (End row) (End at) (ends-apart at row (eqb-false at row is)) (without_timer (Renew at) ts)
        ∙ due-without_other (End row) (Renew at) (row-apart row (Renew at) refl) ts
end-row row c now k Detaches ts other fits = refl
end-row row c now k (Restarts secrets) ts other fits = refl
end-row row c now k _ ts other fits = refl

-- a row that has a peer keeps it, but for a restart
met-row : (rows : List Row) (row : ℕ) (other : Address) → is_some (peer_at row rows) ≡ true → is_some (peer_at row (with_row other rows)) ≡ true
met-row rows row other has = by (peer_at row rows) refl has (peer_stays rows row other)
  where
    by : (o : Option Address) → peer_at row rows ≡ o → is_some o ≡ true → IfSome o (λ p. peer_at row (with_row other rows) ≡ Some p) → is_some (peer_at row (with_row other rows)) ≡ true
    by None is has stays = absurd cc
    by (Some p) is has stays = ap (λ (v : Option Address). is_some v) stays

changed-row : (rows : List Row) (row at : ℕ) (now : Moment) (change : Change) → is_some (peer_at row rows) ≡ true → is_some (peer_at row (with_change at now change rows)) ≡ true
unfolding with_change
changed-row rows row at now change has = by (lifted at rows)
  where
    by : (o : Option Any) → is_some (peer_at row (changed_at o at now change rows)) ≡ true
    by None = has
    by (Some any) = ap (λ (v : Option Address). is_some v) (peer_kept rows row at (Some (changed now change any))) ∙ has

peer-row : (rows : List Row) (row now : ℕ) (step : Step) → bound_said row step ≡ None → is_some (peer_at row rows) ≡ true → is_some (peer_at row (rows_after rows now step)) ≡ true
peer-row rows row now (Meets other) silent has = met-row rows row other has
peer-row rows row now (Tries at change) silent has = changed-row rows row at (record { 0 = now }) change has
peer-row rows row now (Updates at update) silent has = changed-row rows row at (record { 0 = now }) Make has
peer-row rows row now Detaches silent has = absurd cc
peer-row rows row now (Restarts secrets) silent has = absurd cc
peer-row rows row now _ silent has = has

-- a trial is in a row with a peer
lifted-row : (rows : List Row) (row : ℕ) (any : Any) → lifted row rows ≡ Some any → is_some (peer_at row rows) ≡ true
lifted-row [] row any is = absurd cc
lifted-row (r ∷ rs) zero any is = refl
lifted-row (r ∷ rs) (suc k) any is = lifted-row rs k any is

trial-row : (rows : List Row) (row : ℕ) (peer : Address) → IsTrialOf (lifted row rows) peer → is_some (peer_at row rows) ≡ true
trial-row rows row peer of = by (lifted row rows) refl of
  where
    by : (o : Option Any) → lifted row rows ≡ o → IsTrialOf o peer → is_some (peer_at row rows) ≡ true
    by None is of = absurd of
    by (Some any) is of = lifted-row rows row any is

-- where a step says that a row is bound, it has a peer
binding-row : (row : ℕ) (c : Call) (now : ℕ) (k : Known) (step : Step) (end : Moment) → Fits c now k step → bound_said row step ≡ Some (Some end) → is_some (peer_at row (rows_after k.list.rows now step)) ≡ true
binding-row row c now k (Binds at peer until renew) end fits is = by (at == row) refl is
  where
    by : (b : Bool) → (at == row) ≡ b → (if b then Some (Some until) else None) ≡ Some (Some end) → is_some (peer_at row k.list.rows) ≡ true
    by true e is = subst (λ (n : ℕ). is_some (peer_at n k.list.rows) ≡ true) (eqb-true at row e) (trial-row k.list.rows at peer fits)
    by false e is = absurd cc
binding-row row c now k (Unbinds at peer) end fits is = by (at == row) is
  where
    by : (b : Bool) → (if b then Some None else None) ≡ Some (Some end) → is_some (peer_at row (rows_after k.list.rows now (Unbinds at peer))) ≡ true
    by true is = absurd cc
    by false is = absurd cc
binding-row row c now k Detaches end fits is = absurd cc
binding-row row c now k (Restarts secrets) end fits is = absurd cc
binding-row row c now k _ end fits is = absurd cc

-- timed, but for the work with this number, which rings
record AreTimedBut (n : ℕ) (k : Known) : Type 0 where
  whole : length k.peers ≡ 16
  registration : (r : Registered) → k.registered ≡ Some r → (n ≡ 11) ⊎ (due_of (Home home_timers.End) k.list.timers ≡ Some r.end)
  binding : (row : ℕ) (end : Moment) → row < 16 → bound_at k row ≡ Some end → (n ≡ number_of (End row)) ⊎ (due_of (End row) k.list.timers ≡ Some end)
  peer : (row : ℕ) (end : Moment) → row < 16 → bound_at k row ≡ Some end → is_some (peer_of_row k row) ≡ true

timed-step : (n : ℕ) (c : Call) (now : ℕ) (k : Known) (step : Step) → is_ring step ≡ false → Fits c now k step → AreTimedBut n k → AreTimedBut n (after k (record { at = now; step = step }))
unfolding after
timed-step n c now k step other fits timed = record {
  whole = length-after k.peers step timed.whole;
  registration = λ r is. registration r (registered_said step) refl is;
  binding = λ row end inside is. binding row end inside (bound_said row step) refl (sym (bound-row row inside k.peers step timed.whole) ∙ is);
  peer = λ row end inside is. peer row end inside (bound_said row step) refl (sym (bound-row row inside k.peers step timed.whole) ∙ is);
}
  where
    registering : (r : Registered) (step : Step) → registered_said step ≡ Some (Some r) → due_of (Home home_timers.End) (timers_after k.list.timers now step) ≡ Some r.end
    registering r (Registers agent end renew) is = let same : end ≡ r.end = cc in due-with (Home home_timers.End) end (with_timer renew (Home home_timers.Renew) k.list.timers) ∙ ap (λ (m : Moment). Some m) same
    registering r (Unregisters agent) is = absurd cc
    registering r (Arrives address) is = absurd cc
    registering r (FindsTaken address holder) is = absurd cc
    registering r Detaches is = absurd cc
    registering r (Restarts secrets) is = absurd cc
    registering r _ is = absurd cc

    registration : (r : Registered) (o : Option (Option Registered)) → registered_said step ≡ o → unwrap_or o k.registered ≡ Some r
        → (n ≡ 11) ⊎ (due_of (Home home_timers.End) (timers_after k.list.timers now step) ≡ Some r.end)
    registration r (Some (Some q)) says is = let same : q ≡ r = cc in inr (registering r step (says ∙ ap (λ (x : Registered). Some (Some x)) same))
    registration r (Some None) says is = absurd cc
    registration r None says is = by (timed.registration r is)
      where
        by : (n ≡ 11) ⊎ (due_of (Home home_timers.End) k.list.timers ≡ Some r.end) → (n ≡ 11) ⊎ (due_of (Home home_timers.End) (timers_after k.list.timers now step) ≡ Some r.end)
        by (inl rings) = inl rings
        by (inr set) = inr (home-row c now k step k.list.timers other says fits ∙ set)

    binding : (row : ℕ) (end : Moment) → row < 16 → (o : Option (Option Moment)) → bound_said row step ≡ o → unwrap_or (bound_said row step) (bound_at k row) ≡ Some end
        → (n ≡ number_of (End row)) ⊎ (due_of (End row) (timers_after k.list.timers now step) ≡ Some end)
    binding row end inside (Some v) says is = inr (end-row row c now k step k.list.timers other fits ∙ ap (λ (o : Option (Option Moment)). unwrap_or o (due_of (End row) k.list.timers)) says
        ∙ sym (ap (λ (o : Option (Option Moment)). unwrap_or o (bound_at k row)) says) ∙ is)
    binding row end inside None says is =
        by (timed.binding row end inside (sym (ap (λ (o : Option (Option Moment)). unwrap_or o (bound_at k row)) says) ∙ is))
      where
        by : (n ≡ number_of (End row)) ⊎ (due_of (End row) k.list.timers ≡ Some end) → (n ≡ number_of (End row)) ⊎ (due_of (End row) (timers_after k.list.timers now step) ≡ Some end)
        by (inl rings) = inl rings
        by (inr set) = inr (end-row row c now k step k.list.timers other fits ∙ ap (λ (o : Option (Option Moment)). unwrap_or o (due_of (End row) k.list.timers)) says ∙ set)

    peer : (row : ℕ) (end : Moment) → row < 16 → (o : Option (Option Moment)) → bound_said row step ≡ o → unwrap_or (bound_said row step) (bound_at k row) ≡ Some end
        → is_some (peer_at row (rows_after k.list.rows now step)) ≡ true
    peer row end inside (Some v) says is =
        binding-row row c now k step end fits (says ∙ ap (λ (x : Option Moment). Some x) (sym (ap (λ (o : Option (Option Moment)). unwrap_or o (bound_at k row)) says) ∙ is))
    peer row end inside None says is =
        peer-row k.list.rows row now step says (timed.peer row end inside (sym (ap (λ (o : Option (Option Moment)). unwrap_or o (bound_at k row)) says) ∙ is))

-- where nothing rings
abbrev nothing : ℕ
nothing = 64

abbrev IsTimed : Transition → Type 0
IsTimed t = AreTimedBut nothing t.known

whole-again : (k : Known) → AreTimedBut nothing k → AreTimed k
whole-again k timed = record {
  whole = timed.whole;
  registration = λ r is. registration r (timed.registration r is);
  binding = λ row end inside is. binding row end inside (timed.binding row end inside is);
  peer = timed.peer;
}
  where
    registration : (r : Registered) → (nothing ≡ 11) ⊎ (due_of (Home home_timers.End) k.list.timers ≡ Some r.end) → due_of (Home home_timers.End) k.list.timers ≡ Some r.end
    registration r (inl e) = absurd cc
    registration r (inr x) = x

    binding : (row : ℕ) (end : Moment) → row < 16 → (nothing ≡ number_of (End row)) ⊎ (due_of (End row) k.list.timers ≡ Some end) → due_of (End row) k.list.timers ≡ Some end
    binding row end inside (inl e) = absurd (let f : 64 ≡ 4 * row + 2 = e in omega (arith, f, inside))
    binding row end inside (inr x) = x

whole-before : (k : Known) → AreTimed k → AreTimedBut nothing k
whole-before k timed = record {
  whole = timed.whole;
  registration = λ r is. inr (timed.registration r is);
  binding = λ row end inside is. inr (timed.binding row end inside is);
  peer = timed.peer;
}

timed-noted : (n : ℕ) (c : Call) (step : Step) (t : Transition) → is_ring step ≡ false → Fits c t.now t.known step → AreTimedBut n t.known → AreTimedBut n (noted step t).known
timed-noted n c step t other fits timed = subst (AreTimedBut n) (sym (noted-known after step t)) (timed-step n c t.now t.known step other fits timed)

-- no timer rings but in a tick
no-ring : (c : Call) (now : ℕ) (k : Known) (step : Step) → (c ≡ calls.Tick → ⊥) → Fits c now k step → is_ring step ≡ false
no-ring c now k (Rings work) other fits = absurd (other fits)
no-ring c now k _ other fits = refl

timed-goes : (c : Call) → (c ≡ calls.Tick → ⊥) → Goes c IsTimed
timed-goes c other step t steady fits timed = timed-noted nothing c step t (no-ring c t.now t.known step other fits) fits timed

-- a timer that rings is no more among them
rung-step : (now : ℕ) (k : Known) (work : Work) → due_work (moment now) k.list.timers ≡ Some work → AreTimedBut nothing k → AreTimedBut (number_of work) (after k (record { at = now; step = Rings work }))
unfolding after
rung-step now k work due timed = record {
  whole = timed.whole;
  registration = λ r is. registration r (number_of work == 11) refl ((whole-again k timed).registration r is);
  binding = λ row end inside is. binding row end (number_of work == number_of (End row)) refl ((whole-again k timed).binding row end inside is);
  peer = timed.peer;
}
  where
    registration : (r : Registered) (b : Bool) → (number_of work == 11) ≡ b → due_of (Home home_timers.End) k.list.timers ≡ Some r.end
        → (number_of work ≡ 11) ⊎ (due_of (Home home_timers.End) (without_due (moment now) k.list.timers) ≡ Some r.end)
    registration r true e set = inl (eqb-true (number_of work) 11 e)
    registration r false e set = inr (due-rings (Home home_timers.End) now work k.list.timers due (eqb-false (number_of work) 11 e) ∙ set)

    binding : (row : ℕ) (end : Moment) (b : Bool) → (number_of work == number_of (End row)) ≡ b → due_of (End row) k.list.timers ≡ Some end
        → (number_of work ≡ number_of (End row)) ⊎ (due_of (End row) (without_due (moment now) k.list.timers) ≡ Some end)
    binding row end true e set = inl (eqb-true (number_of work) (number_of (End row)) e)
    binding row end false e set = inr (due-rings (End row) now work k.list.timers due (eqb-false (number_of work) (number_of (End row)) e) ∙ set)

rung : (work : Work) (t : Transition) → due_work (moment t.now) t.known.list.timers ≡ Some work → IsTimed t → AreTimedBut (number_of work) (noted (Rings work) t).known
rung work t due timed = subst (AreTimedBut (number_of work)) (sym (noted-known after (Rings work) t)) (rung-step t.now t.known work due timed)

-- work that is no end leaves no end without a timer
calm : (work : Work) (k : Known) → is_end work ≡ false → AreTimedBut (number_of work) k → AreTimedBut nothing k
calm work k other timed = record {
  whole = timed.whole;
  registration = λ r is. registration r (timed.registration r is);
  binding = λ row end inside is. binding row end (timed.binding row end inside is);
  peer = timed.peer;
}
  where
    registration : (r : Registered) → (number_of work ≡ 11) ⊎ (due_of (Home home_timers.End) k.list.timers ≡ Some r.end) → (nothing ≡ 11) ⊎ (due_of (Home home_timers.End) k.list.timers ≡ Some r.end)
    registration r (inl e) = absurd (home-apart work other e)
    registration r (inr set) = inr set

    binding : (row : ℕ) (end : Moment) → (number_of work ≡ number_of (End row)) ⊎ (due_of (End row) k.list.timers ≡ Some end) → (nothing ≡ number_of (End row)) ⊎ (due_of (End row) k.list.timers ≡ Some end)
    binding row end (inl e) = absurd (row-apart row work other e)
    binding row end (inr set) = inr set

-- without a registration its timer matters no more
home-over : (k : Known) → k.registered ≡ None → AreTimedBut 11 k → AreTimedBut nothing k
home-over k none timed = record {
  whole = timed.whole;
  registration = λ r is. absurd (let both : Some r ≡ None = sym is ∙ none in cc);
  binding = λ row end inside is. binding row end (timed.binding row end inside is);
  peer = timed.peer;
}
  where
    binding : (row : ℕ) (end : Moment) → (11 ≡ number_of (End row)) ⊎ (due_of (End row) k.list.timers ≡ Some end) → (nothing ≡ number_of (End row)) ⊎ (due_of (End row) k.list.timers ≡ Some end)
    binding row end (inl e) = absurd (end-apart row (sym e))
    binding row end (inr set) = inr set

-- nor does that of a row without a binding
row-over : (at : ℕ) (k : Known) → ((end : Moment) → at < 16 → bound_at k at ≡ Some end → ⊥) → AreTimedBut (number_of (End at)) k → AreTimedBut nothing k
row-over at k none timed = record {
  whole = timed.whole;
  registration = λ r is. registration r (timed.registration r is);
  binding = λ row end inside is. binding row end (at == row) refl inside is (timed.binding row end inside is);
  peer = timed.peer;
}
  where
    registration : (r : Registered) → (number_of (End at) ≡ 11) ⊎ (due_of (Home home_timers.End) k.list.timers ≡ Some r.end) → (nothing ≡ 11) ⊎ (due_of (Home home_timers.End) k.list.timers ≡ Some r.end)
    registration r (inl e) = absurd (end-apart at e)
    registration r (inr set) = inr set

    binding : (row : ℕ) (end : Moment) (b : Bool) → (at == row) ≡ b → row < 16 → bound_at k row ≡ Some end → (number_of (End at) ≡ number_of (End row)) ⊎ (due_of (End row) k.list.timers ≡ Some end)
        → (nothing ≡ number_of (End row)) ⊎ (due_of (End row) k.list.timers ≡ Some end)
    binding row end b e inside is (inr set) = inr set
    binding row end true e inside is (inl rang) =
        let same : row ≡ at = sym (eqb-true at row e) in
        absurd (none end (subst (λ (n : ℕ). n < 16) same inside) (subst (λ (n : ℕ). bound_at k n ≡ Some end) same is))
    binding row end false e inside is (inl rang) = absurd (ends-apart at row (eqb-false at row e) rang)

-- a row whose binding ended is not bound
unbound-step : (at now : ℕ) (peer : Address) (k : Known) (end : Moment) → length k.peers ≡ 16 → at < 16 → bound_at (after k (record { at = now; step = Unbinds at peer })) at ≡ Some end → ⊥
unfolding after
unbound-step at now peer k end whole inside is =
    by (at == at) (grind (arith, nat_tests)) (sym (bound-row at inside k.peers (Unbinds at peer) whole) ∙ is)
  where
    by : (b : Bool) → b ≡ true → unwrap_or (if b then Some None else None) (bound_at k at) ≡ Some end → ⊥
    by true e is = absurd cc
    by false e is = absurd cc

unbound-noted : (at : ℕ) (peer : Address) (t : Transition) (end : Moment) → length t.known.peers ≡ 16 → at < 16 → bound_at (noted (Unbinds at peer) t).known at ≡ Some end → ⊥
unbound-noted at peer t end whole inside is =
    unbound-step at t.now peer t.known end whole inside (sym (ap (λ (k : Known). bound_at k at) (noted-known after (Unbinds at peer) t)) ∙ is)

unregistered-step : (agent : Address) (k : Known) (now : ℕ) → (let l : Known = after k (record { at = now; step = Unregisters agent }) in l.registered) ≡ None
unfolding after
unregistered-step agent k now = refl

-- work that is due is done
done : (work : Work) (t : Transition) → AreTimedBut (number_of work) t.known → IsTimed (does_work work t)
unfolding ends_row
done (Resend row) t timed = every-work calls.Ask IsTimed (timed-goes calls.Ask (λ e. absurd cc)) refl (Resend row) t (calm (Resend row) t.known refl timed)
done (Renew row) t timed = every-work calls.Ask IsTimed (timed-goes calls.Ask (λ e. absurd cc)) refl (Renew row) t (calm (Renew row) t.known refl timed)
done (Home home_timers.Resend) t timed = every-work calls.Ask IsTimed (timed-goes calls.Ask (λ e. absurd cc)) refl (Home home_timers.Resend) t (calm (Home home_timers.Resend) t.known refl timed)
done (Home home_timers.Renew) t timed = every-work calls.Ask IsTimed (timed-goes calls.Ask (λ e. absurd cc)) refl (Home home_timers.Renew) t (calm (Home home_timers.Renew) t.known refl timed)
done (Home home_timers.Discover) t timed = every-work calls.Ask IsTimed (timed-goes calls.Ask (λ e. absurd cc)) refl (Home home_timers.Discover) t (calm (Home home_timers.Discover) t.known refl timed)
done (Home home_timers.End) t timed = by t.known.registered refl
  where
    by : (o : Option Registered) → t.known.registered ≡ o → IsTimed (ends_home o t)
    by None is = home-over t.known is timed
    by (Some r) is =
        home-over (noted (Unregisters r.agent) t).known (ap (λ (k : Known). k.registered) (noted-known after (Unregisters r.agent) t) ∙ unregistered-step r.agent t.known t.now)
        (timed-noted 11 calls.Ask (Unregisters r.agent) t refl (λ take. absurd cc) timed)
done (End row) t timed = by (peer_of_row t.known row) refl
  where
    resting : (b : Bool) (u : Transition) → IsTimed u → IsTimed (if b then noted (Tries row Rest) u else u)
    resting true u timed = timed-noted nothing calls.Ask (Tries row Rest) u refl tt timed
    resting false u timed = timed

    by : (peer : Option Address) → peer_of_row t.known row ≡ peer → IsTimed (ends_at peer row t)
    by None is = row-over row t.known (λ end inside bound. absurd (let both : false ≡ true = sym (ap (λ (o : Option Address). is_some o) is) ∙ timed.peer row end inside bound in cc)) timed
    by (Some peer) is =
        let u = noted (Unbinds row peer) t in
        resting (is_bound (trial_of u.known row)) u
        (row-over row u.known (λ end inside bound. unbound-noted row peer t end timed.whole inside bound)
        (timed-noted (number_of (End row)) calls.Ask (Unbinds row peer) t refl is timed))

timed-rings : (work : Work) (t : Transition) → due_work (moment t.now) t.known.list.timers ≡ Some work → IsTimed t → IsTimed (rings work t)
unfolding rings
timed-rings work t due timed = done work (noted (Rings work) t) (rung work t due timed)

timed-ticks : (n : ℕ) (t : Transition) → IsTimed t → IsTimed (ticks n t)
unfolding ticks
timed-ticks zero t timed = timed
timed-ticks (suc n) t timed = by (λ u timed. timed-ticks n u timed) (due_work (moment t.now) t.known.list.timers) refl
  where
    by : ((u : Transition) → IsTimed u → IsTimed (ticks n u)) → (work : Option Work) → due_work (moment t.now) t.known.list.timers ≡ work → IsTimed (rings_on (ticks n) work t)
    by again None is = timed
    by again (Some work) is = again (rings work t) (timed-rings work t is timed)

timed-tick : (k : Known) (now : ℕ) → AreTimedBut nothing k → IsTimed (transition_of k now calls.Tick)
unfolding does ticks_all
timed-tick k now timed =
    let first = noted (Called calls.Tick) (begun now k) in
    timed-ticks (length first.known.list.timers) first (timed-noted nothing calls.Tick (Called calls.Tick) (begun now k) refl refl timed)

timed-other : (k : Known) (now : ℕ) (c : Call) → (c ≡ calls.Tick → ⊥) → AreTimedBut nothing k → IsTimed (transition_of k now c)
timed-other k now c other timed =
    every-call c IsTimed (timed-goes c other)
    (λ call t is. timed-noted nothing c (Parts call) t refl tt is)
    (λ entry t own is. timed-noted nothing c (Notes entry) t refl own is)
    (λ step t ack fits led is. timed-noted nothing c step t (no-ring c t.now t.known step other fits) fits is)
    (λ step t move fits is. timed-noted nothing c step t (no-ring c t.now t.known step other fits) fits is)
    (λ number why t right is. timed-noted nothing c (Drops number why) t refl right is)
    (λ t is. timed-noted nothing c (Called c) t refl refl is)
    (begun now k) timed

timed-call : (k : Known) (now : ℕ) (c : Call) → AreTimedBut nothing k → IsTimed (transition_of k now c)
timed-call k now calls.Tick timed = timed-tick k now timed
timed-call k now (calls.Attach prefix of_home of_address) timed = timed-other k now (calls.Attach prefix of_home of_address) (λ e. absurd cc) timed
timed-call k now (calls.Leave of_home) timed = timed-other k now (calls.Leave of_home) (λ e. absurd cc) timed
timed-call k now (calls.Take number shield packet) timed = timed-other k now (calls.Take number shield packet) (λ e. absurd cc) timed
timed-call k now (calls.Send to proto payload) timed = timed-other k now (calls.Send to proto payload) (λ e. absurd cc) timed
timed-call k now (calls.Refresh home) timed = timed-other k now (calls.Refresh home) (λ e. absurd cc) timed
timed-call k now calls.Ask timed = timed-other k now calls.Ask (λ e. absurd cc) timed
timed-call k now (calls.Restart secrets) timed = timed-other k now (calls.Restart secrets) (λ e. absurd cc) timed
timed-call k now (calls.Tunnel inner) timed = timed-other k now (calls.Tunnel inner) (λ e. absurd cc) timed

pub timed-born : (home : Address) (declared : Option Address) (numbers : ℕ) (secrets : Life) → AreTimed (known home declared numbers secrets [])
unfolding known
timed-born home declared numbers secrets = record {
  whole = refl;
  registration = λ r is. absurd cc;
  binding = λ row end inside is. absurd (let none : None ≡ Some end = sym (lost (λ (p : _). p.bound) None row inside) ∙ is in cc);
  peer = λ row end inside is. absurd (let none : None ≡ Some end = sym (lost (λ (p : _). p.bound) None row inside) ∙ is in cc);
}

pub timed-kept : (k : Known) (now : ℕ) (c : Call) → AreTimed k → AreTimed (transition_of k now c).known
timed-kept k now c timed = whole-again (transition_of k now c).known (timed-call k now c (whole-before k timed))

pub tick-ends : (k : Known) (now : ℕ) → AreInOrder k.list.timers → AreTimed k → LieAhead now (transition_of k now calls.Tick).known
tick-ends k now order timed =
    let left = tick-empties k now order in
    let still = timed-kept k now calls.Tick timed in
    record {
      registration = λ r is. due-later (Home home_timers.End) now r.end (transition_of k now calls.Tick).known.list.timers left (still.registration r is);
      binding = λ row end inside is. due-later (End row) now end (transition_of k now calls.Tick).known.list.timers left (still.binding row end inside is);
    }
