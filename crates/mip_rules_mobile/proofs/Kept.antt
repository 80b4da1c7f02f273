-- The tests that a trial keeps were given to it since it started.
use Rattle.std.proofs.Common.{◌≡◌, ℕ, zero, suc, List, [], ◌∷◌, ◌++◌, length, Bool, true, false, refl, sym, ap, ◌∙◌, subst}
use Rattle.std.specs.Prelude.{Option, Some, None, IfSome, Ok, Err, option_map, fold, ◌==◌, ◌||◌, not, nat_lt, if◌then◌else◌}
use Rattle.std.proofs.lemmas.List.{append_assoc, append-nil}
use Rattle.std.proofs.lemmas.List.Folds.{list_any-append}
use Rattle.std.proofs.lemmas.Bool.{eqb-true, eqb-false}
use Rattle.mip_words.specs.declared.address.Address.{Address}
use Rattle.mip_words.specs.declared.moment.Moment.{Moment}
use Rattle.mip_nonce.specs.Secrets.{Life}
use Rattle.mip_bulist.specs.declared.aim.Aim.{Aim}
use Rattle.mip_bulist.specs.declared.aim.Aim.TheVariants.{Bind, Delete}
use Rattle.mip_bulist.specs.declared.any.Any.{Any}
use Rattle.mip_bulist.specs.declared.any.Any.TheVariants.{Idle, Probing, Proved, Pending, Bound}
use Rattle.mip_bulist.specs.declared.made.Made.{Made}
use Rattle.mip_bulist.specs.declared.refused.Refused.TheVariants as refused
use Rattle.mip_bulist.specs.declared.row.Row.{Row}
use Rattle.mip_bulist.specs.declared.state.Idle as idle
use Rattle.mip_bulist.specs.declared.state.Probing as probing
use Rattle.mip_bulist.specs.declared.tested.Test.{Test}
use Rattle.mip_bulist.specs.declared.tested.Tested.{Tested}
use Rattle.mip_bulist.specs.declared.tested.Tested.TheVariants.{Both, Home}
use Rattle.mip_bulist.specs.declared.trial.Ended.TheVariants as ends
use Rattle.mip_bulist.specs.declared.trial.Trial.{Trial}
use Rattle.mip_bulist.specs.Rows.{lifted, with_trial, with_row, rows_given, row_place, new_row, all_rested, resting}
use Rattle.mip_bulist.proofs.RowLaws.{with_step}
use Rattle.mip_bulist.specs.Trials.{fresh_trial, needed, proved_where, weighed, with_home, with_careof, is_deletion, has_old, is_too_soon, made_of, made_now, in_state, making, making_of, ended_with}
use Rattle.mip_entries.specs.Stamped.{Stamped}
use Rattle.mip_rules_mobile.specs.Trials.{Change, Start, HomeTest, CareofTest, Make, Resequence, Acknowledge, Rest, after_probe, after_update, after_again, with_update, after_end, changed, changed_at, with_change, makes}
use Rattle.mip_rules_mobile.specs.Steps.{Step, Called, Parts, Notes, Sends, Unsends, Drops, Claims, Releases, FindsTaken, Arrives, Detaches, Restarts, Registers, Unregisters, IsRefused, Resequences, Seeks, SeeksAgain, GivesUp, Finds, Chooses, Learns, Meets, Tries, Updates, Forgets, Binds, Unbinds, Waits, Stops, Rings}
use Rattle.mip_rules_mobile.specs.Sendings.{PeerUpdate}
use Rattle.mip_rules_mobile.specs.Known.{Known}
use Rattle.mip_rules_mobile.specs.RowQuestions.{rows_after, trial_of}
use Rattle.mip_rules_mobile.specs.Questions.{after, fresh, known}
use Rattle.mip_rules_mobile.specs.Fitting.{IsUpdateOf}
use Rattle.mip_rules_mobile.specs.Kept.{is_start, GivesHome, GivesCareof, WasGiven, HomeGiven, CareofGiven, TestedGiven, TrialGiven, RowsGiven, IsMadeFrom}

-- one step more
module _ (past : List (Stamped Step)) (s : Stamped Step) (row : ℕ) where
  abbrev more : List (Stamped Step)
  more = past ++ s ∷ []

  given-push : (gives : Step → Type 0) → is_start row s.step ≡ false → WasGiven gives row past → WasGiven gives row more
  given-push gives other w = record {
    before = w.before;
    given = w.given;
    later = w.later ++ s ∷ [];
    whole = ap (λ (l : List (Stamped Step)). l ++ s ∷ []) w.whole ∙ append_assoc w.before (w.given ∷ w.later) (s ∷ []);
    is = w.is;
    since =
        list_any-append (λ (x : Stamped Step). is_start row x.step) w.later (s ∷ [])
        ∙ ap (λ (b : Bool). b || (is_start row s.step || false)) w.since
        ∙ ap (λ (b : Bool). b || false) other;
  }

  given-now : (gives : Step → Type 0) → gives s.step → WasGiven gives row more
  given-now gives is = record { before = past; given = s; later = []; whole = refl; is = is; since = refl }

  some-push : (gives : Test → Step → Type 0) → is_start row s.step ≡ false → (o : Option Test) → IfSome o (λ test. WasGiven (gives test) row past) → IfSome o (λ test. WasGiven (gives test) row more)
  some-push gives other None w = tt
  some-push gives other (Some test) w = given-push (gives test) other w

  tested-push : is_start row s.step ≡ false → (tested : Tested) → TestedGiven past row tested → TestedGiven more row tested
  tested-push other (Both to home careof) w = (given-push (GivesHome row home) other w.0, given-push (GivesCareof row careof) other w.1)
  tested-push other (Home home) w = given-push (GivesHome row home) other w

  trial-push : is_start row s.step ≡ false → (any : Any) → TrialGiven past row any → TrialGiven more row any
  trial-push other (Idle t) w = tt
  trial-push other (Probing t) w = (some-push (GivesHome row) other t.state.home w.0, some-push (GivesCareof row) other t.state.careof w.1)
  trial-push other (Proved t) w = tested-push other t.state.tested w
  trial-push other (Pending t) w = tested-push other t.state.tested w
  trial-push other (Bound t) w = tt

  if-push : is_start row s.step ≡ false → (o : Option Any) → IfSome o (TrialGiven past row) → IfSome o (TrialGiven more row)
  if-push other None w = tt
  if-push other (Some any) w = trial-push other any w

-- what a kept test leaves
module _ (past : List (Stamped Step)) (row : ℕ) where
  weighed-given : (t : Trial probing.Probing) → IfSome t.state.home (HomeGiven past row) → IfSome t.state.careof (CareofGiven past row) → TrialGiven past row (after_probe (Ok (weighed t)))
  weighed-given t home careof = by t.state.aim t.state.home t.state.careof home careof home careof
    where
      proved-given : (o : Option Tested) → IfSome o (TestedGiven past row) → IfSome t.state.home (HomeGiven past row) → IfSome t.state.careof (CareofGiven past row) → TrialGiven past row (after_probe (Ok (proved_where o t)))
      proved-given (Some tested) is home careof = is
      proved-given None is home careof = (home, careof)

      by : (aim : Aim) (h c : Option Test) → IfSome h (HomeGiven past row) → IfSome c (CareofGiven past row) → IfSome t.state.home (HomeGiven past row) → IfSome t.state.careof (CareofGiven past row)
          → TrialGiven past row (after_probe (Ok (proved_where (needed aim h c) t)))
      by (Bind to) (Some h) (Some c) x y home careof = (x, y)
      by (Bind to) _ _ x y home careof = (home, careof)
      by Delete (Some h) (Some c) x y home careof = x
      by Delete (Some h) None x y home careof = x
      by Delete None (Some c) x y home careof = (home, careof)
      by Delete None None x y home careof = (home, careof)

-- an update leaves the tests that it is made of
module _ (past : List (Stamped Step)) (row : ℕ) where
  made-given : (s : Stamped Step) → is_start row s.step ≡ false → (any : Any) → TrialGiven past row any → TrialGiven (past ++ s ∷ []) row (with_update (record { 0 = s.at }) any)
  made-given s other (Idle t) w = tt
  made-given s other (Bound t) w = tt
  made-given s other (Probing t) w = trial-push past s row other (Probing t) w
  made-given s other (Proved t) w = by (has_old (record { 0 = s.at }) t.state.tested) (is_too_soon (record { 0 = s.at }) t.recent)
    where
      kept : TestedGiven (past ++ s ∷ []) row t.state.tested
      kept = tested-push past s row other t.state.tested w

      by : (old soon : Bool) → TrialGiven (past ++ s ∷ []) row (after_update (if old then Err (t, refused.Old) else if soon then Err (t, refused.TooSoon) else Ok (made_now (record { 0 = s.at }) t.state.tested t)))
      by true soon = kept
      by false true = kept
      by false false = kept
  made-given s other (Pending t) w = by (has_old (record { 0 = s.at }) t.state.tested) (is_too_soon (record { 0 = s.at }) t.recent)
    where
      kept : TestedGiven (past ++ s ∷ []) row t.state.tested
      kept = tested-push past s row other t.state.tested w

      by : (old soon : Bool) → TrialGiven (past ++ s ∷ []) row (after_again (if old then Err (t, refused.Old) else if soon then Err (t, refused.TooSoon) else Ok (made_now (record { 0 = s.at }) t.state.tested t)))
      by true soon = kept
      by false true = kept
      by false false = kept

-- a change of a row's trial
module _ (past : List (Stamped Step)) (at row : ℕ) where
  abbrev by-change : Change → List (Stamped Step)
  by-change change = past ++ record { at = at; step = Tries row change } ∷ []

  changed-given : (change : Change) (any : Any) → TrialGiven past row any → TrialGiven (by-change change) row (changed (record { 0 = at }) change any)
  unfolding changed
  changed-given (Start aim home careof) any w = (tt, tt)
  changed-given (HomeTest peer cookie test) (Idle t) w = tt
  changed-given (HomeTest peer cookie test) (Bound t) w = tt
  changed-given (HomeTest peer cookie test) (Proved t) w = tested-push past (record { at = at; step = Tries row (HomeTest peer cookie test) }) row refl t.state.tested w
  changed-given (HomeTest peer cookie test) (Pending t) w = tested-push past (record { at = at; step = Tries row (HomeTest peer cookie test) }) row refl t.state.tested w
  changed-given (HomeTest peer cookie test) (Probing t) w = by (not (peer.0 == t.peer.0)) (not (cookie.0 == t.state.home_cookie.0))
    where
      s : Stamped Step
      s = record { at = at; step = Tries row (HomeTest peer cookie test) }

      kept : TrialGiven (past ++ s ∷ []) row (Probing t)
      kept = trial-push past s row refl (Probing t) w

      by : (other wrong : Bool) → TrialGiven (past ++ s ∷ []) row (after_probe (if other then Err (t, refused.NotMine) else if wrong then Err (t, refused.Cookie) else Ok (weighed (with_home test t))))
      by true wrong = kept
      by false true = kept
      by false false = weighed-given (past ++ s ∷ []) row (with_home test t) (given-now past s row (GivesHome row test) (peer, cookie, refl)) kept.1
  changed-given (CareofTest peer cookie test) (Idle t) w = tt
  changed-given (CareofTest peer cookie test) (Bound t) w = tt
  changed-given (CareofTest peer cookie test) (Proved t) w = tested-push past (record { at = at; step = Tries row (CareofTest peer cookie test) }) row refl t.state.tested w
  changed-given (CareofTest peer cookie test) (Pending t) w = tested-push past (record { at = at; step = Tries row (CareofTest peer cookie test) }) row refl t.state.tested w
  changed-given (CareofTest peer cookie test) (Probing t) w = by (not (peer.0 == t.peer.0)) (is_deletion t.state.aim) (not (cookie.0 == t.state.careof_cookie.0))
    where
      s : Stamped Step
      s = record { at = at; step = Tries row (CareofTest peer cookie test) }

      kept : TrialGiven (past ++ s ∷ []) row (Probing t)
      kept = trial-push past s row refl (Probing t) w

      by : (other deletes wrong : Bool)
          → TrialGiven (past ++ s ∷ []) row (after_probe (if other then Err (t, refused.NotMine) else if deletes then Err (t, refused.Cookie) else if wrong then Err (t, refused.Cookie) else Ok (weighed (with_careof test t))))
      by true deletes wrong = kept
      by false true wrong = kept
      by false false true = kept
      by false false false = weighed-given (past ++ s ∷ []) row (with_careof test t) kept.0 (given-now past s row (GivesCareof row test) (peer, cookie, refl))
  changed-given Make any w = made-given past row (record { at = at; step = Tries row Make }) refl any w
  changed-given (Resequence last) (Idle t) w = tt
  changed-given (Resequence last) (Bound t) w = tt
  changed-given (Resequence last) (Probing t) w = trial-push past (record { at = at; step = Tries row (Resequence last) }) row refl (Probing t) w
  changed-given (Resequence last) (Proved t) w = trial-push past (record { at = at; step = Tries row (Resequence last) }) row refl (Proved t) w
  changed-given (Resequence last) (Pending t) w = tested-push past (record { at = at; step = Tries row (Resequence last) }) row refl t.state.tested w
  changed-given (Acknowledge sequence granted) (Idle t) w = tt
  changed-given (Acknowledge sequence granted) (Bound t) w = tt
  changed-given (Acknowledge sequence granted) (Probing t) w = trial-push past (record { at = at; step = Tries row (Acknowledge sequence granted) }) row refl (Probing t) w
  changed-given (Acknowledge sequence granted) (Proved t) w = trial-push past (record { at = at; step = Tries row (Acknowledge sequence granted) }) row refl (Proved t) w
  changed-given (Acknowledge sequence granted) (Pending t) w = by (not (t.peer.0 == t.peer.0)) (not (sequence == t.state.last)) t.state.tested
    where
      s : Stamped Step
      s = record { at = at; step = Tries row (Acknowledge sequence granted) }

      kept : TrialGiven (past ++ s ∷ []) row (Pending t)
      kept = trial-push past s row refl (Pending t) w

      ended : (to : Address) (none : Bool) → TrialGiven (past ++ s ∷ []) row (after_end (Ok (if none then ends.Deleted (in_state (record {}) t) else ends.Bound (in_state (record { aim = Bind to }) t))))
      ended to true = tt
      ended to false = tt

      by : (other wrong : Bool) (tested : Tested) → TrialGiven (past ++ s ∷ []) row (after_end (if other then Err (t, refused.NotMine) else if wrong then Err (t, refused.NotMine) else Ok (ended_with granted tested t)))
      by true wrong tested = kept
      by false true tested = kept
      by false false (Both to home careof) = ended to (granted == 0)
      by false false (Home home) = tt
  changed-given Rest any w = tt

-- rows with one changed
with-other : (rows : List Row) (row at : ℕ) (any : Any) → (row ≡ at → ⊥) → lifted row (with_trial at (Some any) rows) ≡ lifted row rows
with-other [] row at any other = refl
with-other (r ∷ rs) zero zero any other = absurd (other refl)
with-other (r ∷ rs) (suc k) zero any other = refl
with-other (r ∷ rs) zero (suc i) any other = ap (lifted zero) (with_step r rs i (Some any))
with-other (r ∷ rs) (suc k) (suc i) any other = ap (lifted (suc k)) (with_step r rs i (Some any)) ∙ with-other rs k i any (λ e. other (ap suc e))

with-same : (P : Any → Type 0) (rows : List Row) (at : ℕ) (any : Any) → P any → IfSome (lifted at (with_trial at (Some any) rows)) P
with-same P [] at any is = tt
with-same P (r ∷ rs) zero any is = is
with-same P (r ∷ rs) (suc i) any is = subst (λ (rows : List Row). IfSome (lifted (suc i) rows) P) (sym (with_step r rs i (Some any))) (with-same P rs i any is)

-- and with one more
appended : (P : Any → Type 0) (rows : List Row) (row : ℕ) (peer : Address) → P (Idle (fresh_trial peer)) → IfSome (lifted row rows) P → IfSome (lifted row (rows ++ new_row peer ∷ [])) P
appended P [] zero peer fresh was = fresh
appended P [] (suc k) peer fresh was = tt
appended P (r ∷ rs) zero peer fresh was = was
appended P (r ∷ rs) (suc k) peer fresh was = appended P rs k peer fresh was

rested : (P : Any → Type 0) (rows : List Row) (row : ℕ) → ((t : Trial idle.Idle) → P (Idle t)) → IfSome (lifted row (all_rested rows)) P
rested P [] row idles = tt
rested P (r ∷ rs) zero idles = by r.trial
  where
    by : (o : Option Any) → IfSome (option_map (λ any. Idle (resting any)) o) P
    by None = tt
    by (Some any) = idles (resting any)
rested P (r ∷ rs) (suc k) idles = rested P rs k idles

start-other : (row at : ℕ) (change : Change) → row == at ≡ false → is_start row (Tries at change) ≡ false
start-other row at (Start aim home careof) other = other
start-other row at _ other = refl

module _ (past : List (Stamped Step)) (rows : List Row) (was : RowsGiven past rows) where
  abbrev then_ : Stamped Step → List (Stamped Step)
  then_ s = past ++ s ∷ []

  meets-given : (at : ℕ) (peer : Address) → RowsGiven (then_ (record { at = at; step = Meets peer })) (with_row peer rows)
  meets-given at peer row = by (row_place peer rows)
    where
      s : Stamped Step
      s = record { at = at; step = Meets peer }

      same : IfSome (lifted row rows) (TrialGiven (past ++ s ∷ []) row)
      same = if-push past s row refl (lifted row rows) (was row)

      if-room : (room : Bool) → IfSome (lifted row (if room then rows ++ new_row peer ∷ [] else rows)) (TrialGiven (past ++ s ∷ []) row)
      if-room true = appended (TrialGiven (past ++ s ∷ []) row) rows row peer tt same
      if-room false = same

      by : (place : Option ℕ) → IfSome (lifted row (rows_given place peer rows)) (TrialGiven (past ++ s ∷ []) row)
      by (Some i) = same
      by None = if-room (nat_lt (length rows) 16)

  -- a change of the trial of one row, by a step that starts no other
  change-given : (s : Stamped Step) (at : ℕ) (change : Change) → ((row : ℕ) → row == at ≡ false → is_start row s.step ≡ false)
      → ((any : Any) → TrialGiven past at any → TrialGiven (then_ s) at (changed (record { 0 = s.at }) change any)) → RowsGiven (then_ s) (with_change at (record { 0 = s.at }) change rows)
  unfolding with_change
  change-given s at change others changes row = by (lifted at rows) refl (row == at) refl
    where
      by : (o : Option Any) → lifted at rows ≡ o → (same : Bool) → row == at ≡ same → IfSome (lifted row (changed_at o at (record { 0 = s.at }) change rows)) (TrialGiven (past ++ s ∷ []) row)
      by None is false other = if-push past s row (others row other) (lifted row rows) (was row)
      by (Some any) is false other =
          subst (λ (o : Option Any). IfSome o (TrialGiven (past ++ s ∷ []) row))
          (sym (with-other rows row at (changed (record { 0 = s.at }) change any) (eqb-false row at other)))
          (if-push past s row (others row other) (lifted row rows) (was row))
      by None is true same =
          subst (λ (n : ℕ). IfSome (lifted n rows) (TrialGiven (past ++ s ∷ []) n)) (sym (eqb-true row at same))
          (subst (λ (o : Option Any). IfSome o (TrialGiven (past ++ s ∷ []) at)) (sym is) tt)
      by (Some any) is true same =
          let given : TrialGiven past at any = subst (λ (o : Option Any). IfSome o (TrialGiven past at)) is (was at) in
          subst (λ (n : ℕ). IfSome (lifted n (with_trial at (Some (changed (record { 0 = s.at }) change any)) rows)) (TrialGiven (past ++ s ∷ []) n)) (sym (eqb-true row at same))
          (with-same (TrialGiven (past ++ s ∷ []) at) rows at (changed (record { 0 = s.at }) change any) (changes any given))

  update-given : (s : Stamped Step) (at : ℕ) → is_start at s.step ≡ false → (any : Any) → TrialGiven past at any → TrialGiven (then_ s) at (changed (record { 0 = s.at }) Make any)
  unfolding changed
  update-given s at other any w = made-given past at s other any w

  rows-given : (at : ℕ) (step : Step) → RowsGiven (then_ (record { at = at; step = step })) (rows_after rows at step)
  rows-given at (Called call) = λ i. if-push past (record { at = at; step = (Called call) }) i refl (lifted i rows) (was i)
  rows-given at (Parts call) = λ i. if-push past (record { at = at; step = (Parts call) }) i refl (lifted i rows) (was i)
  rows-given at (Notes entry) = λ i. if-push past (record { at = at; step = (Notes entry) }) i refl (lifted i rows) (was i)
  rows-given at (Sends sending) = λ i. if-push past (record { at = at; step = (Sends sending) }) i refl (lifted i rows) (was i)
  rows-given at (Unsends why) = λ i. if-push past (record { at = at; step = (Unsends why) }) i refl (lifted i rows) (was i)
  rows-given at (Drops number why) = λ i. if-push past (record { at = at; step = (Drops number why) }) i refl (lifted i rows) (was i)
  rows-given at (Claims address) = λ i. if-push past (record { at = at; step = (Claims address) }) i refl (lifted i rows) (was i)
  rows-given at (Releases address) = λ i. if-push past (record { at = at; step = (Releases address) }) i refl (lifted i rows) (was i)
  rows-given at (FindsTaken address holder) = λ i. if-push past (record { at = at; step = (FindsTaken address holder) }) i refl (lifted i rows) (was i)
  rows-given at (Arrives address) = λ i. if-push past (record { at = at; step = (Arrives address) }) i refl (lifted i rows) (was i)
  rows-given at Detaches = λ row. rested (TrialGiven (then_ (record { at = at; step = Detaches })) row) rows row (λ t. tt)
  rows-given at (Restarts secrets) = λ row. tt
  rows-given at (Registers agent end renew) = λ i. if-push past (record { at = at; step = (Registers agent end renew) }) i refl (lifted i rows) (was i)
  rows-given at (Unregisters agent) = λ i. if-push past (record { at = at; step = (Unregisters agent) }) i refl (lifted i rows) (was i)
  rows-given at (IsRefused status) = λ i. if-push past (record { at = at; step = (IsRefused status) }) i refl (lifted i rows) (was i)
  rows-given at (Resequences agent last) = λ i. if-push past (record { at = at; step = (Resequences agent last) }) i refl (lifted i rows) (was i)
  rows-given at Seeks = λ i. if-push past (record { at = at; step = Seeks }) i refl (lifted i rows) (was i)
  rows-given at SeeksAgain = λ i. if-push past (record { at = at; step = SeeksAgain }) i refl (lifted i rows) (was i)
  rows-given at GivesUp = λ i. if-push past (record { at = at; step = GivesUp }) i refl (lifted i rows) (was i)
  rows-given at (Finds agents) = λ i. if-push past (record { at = at; step = (Finds agents) }) i refl (lifted i rows) (was i)
  rows-given at (Chooses agent) = λ i. if-push past (record { at = at; step = (Chooses agent) }) i refl (lifted i rows) (was i)
  rows-given at (Learns valid preferred) = λ i. if-push past (record { at = at; step = (Learns valid preferred) }) i refl (lifted i rows) (was i)
  rows-given at (Meets peer) = meets-given at peer
  rows-given at (Tries row change) = change-given (record { at = at; step = Tries row change }) row change (λ other e. start-other other row change e) (λ any w. changed-given past at row change any w)
  rows-given at (Updates row update) = change-given (record { at = at; step = Updates row update }) row Make (λ other e. refl) (λ any w. update-given (record { at = at; step = Updates row update }) row refl any w)
  rows-given at (Forgets row) = λ i. if-push past (record { at = at; step = (Forgets row) }) i refl (lifted i rows) (was i)
  rows-given at (Binds row peer end renew) = λ i. if-push past (record { at = at; step = (Binds row peer end renew) }) i refl (lifted i rows) (was i)
  rows-given at (Unbinds row peer) = λ i. if-push past (record { at = at; step = (Unbinds row peer) }) i refl (lifted i rows) (was i)
  rows-given at (Waits work wait) = λ i. if-push past (record { at = at; step = (Waits work wait) }) i refl (lifted i rows) (was i)
  rows-given at (Stops work) = λ i. if-push past (record { at = at; step = (Stops work) }) i refl (lifted i rows) (was i)
  rows-given at (Rings work) = λ i. if-push past (record { at = at; step = (Rings work) }) i refl (lifted i rows) (was i)

-- after every past
given-along : (front : List (Stamped Step)) (k : Known) (past : List (Stamped Step)) → RowsGiven front k.list.rows → RowsGiven (front ++ past) (let l : Known = fold after k past in l.list.rows)
unfolding after
given-along front k [] was = subst (λ (l : List (Stamped Step)). RowsGiven l k.list.rows) (sym (append-nil front)) was
given-along front k (s ∷ past) was =
    subst (λ (l : List (Stamped Step)). RowsGiven l (let m : Known = fold after (after k s) past in m.list.rows)) (append_assoc front (s ∷ []) past)
    (given-along (front ++ s ∷ []) (after k s) past (rows-given front k.list.rows was s.at s.step))

pub past-given : (home : Address) (declared : Option Address) (numbers : ℕ) (secrets : Life) (past : List (Stamped Step)) → RowsGiven past (known home declared numbers secrets past).list.rows
unfolding known
past-given home declared numbers secrets past = given-along [] (fresh home declared numbers secrets) past (λ row. tt)

-- an update that a trial makes has its tests
module _ (past : List (Stamped Step)) (row : ℕ) where
  tested-from : (sequence : ℕ) (tested : Tested) → TestedGiven past row tested → IsMadeFrom past row (made_of sequence tested)
  tested-from sequence (Both to home careof) w =
      record { home = home; home_given = w.0; home_token = refl; home_index = refl; careof = (careof, w.1, refl, refl) }
  tested-from sequence (Home home) w = record { home = home; home_given = w; home_token = refl; home_index = refl; careof = tt }

  making-from : {S : Type 0} (now : Moment) (tested : Tested) (t : Trial S) (made : Made) → TestedGiven past row tested → making_of (making now tested t) ≡ Ok made → IsMadeFrom past row made
  making-from now tested t made w = by (has_old now tested) (is_too_soon now t.recent)
    where
      by : (old soon : Bool) → making_of (if old then Err (t, refused.Old) else if soon then Err (t, refused.TooSoon) else Ok (made_now now tested t)) ≡ Ok made → IsMadeFrom past row made
      by true soon e = absurd cc
      by false true e = absurd cc
      by false false e = subst (IsMadeFrom past row) (let same : made_of t.next tested ≡ made = cc in same) (tested-from t.next tested w)

  makes-from : (now : Moment) (o : Option Any) (made : Made) → IfSome o (TrialGiven past row) → makes now o ≡ Some (Ok made) → IsMadeFrom past row made
  makes-from now None made w e = absurd cc
  makes-from now (Some (Idle t)) made w e = absurd cc
  makes-from now (Some (Probing t)) made w e = absurd cc
  makes-from now (Some (Bound t)) made w e = absurd cc
  makes-from now (Some (Proved t)) made w e = making-from now t.state.tested t made w cc
  makes-from now (Some (Pending t)) made w e = making-from now t.state.tested t made w cc

pub update-from : (home : Address) (declared : Option Address) (numbers : ℕ) (secrets : Life) (past : List (Stamped Step)) (now row : ℕ) (u : PeerUpdate)
    → IsUpdateOf now (known home declared numbers secrets past) row u → IsMadeFrom past row u.made
update-from home declared numbers secrets past now row u is =
    makes-from past row (record { 0 = now }) (trial_of (known home declared numbers secrets past) row) u.made (past-given home declared numbers secrets past row) is.made
