-- A row whose trial is changed.
use Rattle.std.proofs.Common.{◌≡◌, ℕ, zero, suc, List, [], ◌∷◌, ◌++◌, length, nat_lt, Bool, true, false, refl, sym, ap, ◌∙◌, subst}
use Rattle.std.specs.Prelude.{Option, Some, None, IfSome, Ok, Err, option_map, not, ◌==◌, if◌then◌else◌}
use Rattle.std.proofs.lemmas.Bool.{eq-eqb, eqb-true, eqb-false}
use Rattle.mip_words.specs.declared.address.Address.{Address}
use Rattle.mip_words.specs.declared.moment.Moment.{Moment}
use Rattle.mip_bulist.specs.declared.aim.Aim.TheVariants.{Bind}
use Rattle.mip_bulist.specs.declared.any.Any.{Any}
use Rattle.mip_bulist.specs.declared.any.Any.TheVariants.{Idle, Probing, Proved, Pending, Bound}
use Rattle.mip_bulist.specs.declared.row.Row.{Row}
use Rattle.mip_bulist.specs.Lists.{ListSeen}
use Rattle.mip_bulist.specs.Rows.{lifted, peer_at, peer_of_any, with_trial, takes_at, with_row, rows_given, row_place, new_row, resting, all_rested}
use Rattle.mip_bulist.specs.declared.refused.Refused.TheVariants as refused
use Rattle.mip_bulist.specs.declared.state.Probing as probing
use Rattle.mip_bulist.specs.declared.tested.Tested.{Tested}
use Rattle.mip_bulist.specs.declared.tested.Tested.TheVariants.{Both, Home}
use Rattle.mip_bulist.specs.declared.trial.Ended.TheVariants as ends
use Rattle.mip_bulist.specs.declared.trial.Trial.{Trial}
use Rattle.mip_bulist.specs.Trials.{needed, proved_where, weighed, with_home, with_careof, is_deletion, has_old, is_too_soon, made_now, ended_with, in_state}
use Rattle.mip_rules_mobile.specs.Trials.{Change, Start, HomeTest, CareofTest, Make, Resequence, Acknowledge, Rest, after_probe, after_update, after_again, after_end, changed, changed_at, with_change}
use Rattle.mip_bulist.proofs.RowLaws.{peer_kept, with_step}
use Rattle.mip_mobile_state.specs.Mine.{IsMine, AreMine}

-- a row whose trial is out takes it back
pub takes-back : (rows : List Row) (row : ℕ) (any : Any) (peer : Address) → lifted row rows ≡ Some any → IsMine rows row → peer ≡ peer_of_any any → takes_at row peer (with_trial row None rows) ≡ true
takes-back [] row any peer is mine same = absurd cc
takes-back (r ∷ rs) zero any peer is mine same =
    let own : Some r.peer ≡ Some (peer_of_any any) = subst (λ (o : Option Any). IfSome o (λ a. Some r.peer ≡ Some (peer_of_any a))) is mine in
    let peers : r.peer ≡ peer_of_any any = cc in
    eq-eqb r.peer.0 peer.0 (ap (λ (a : Address). a.0) (peers ∙ sym same))
takes-back (r ∷ rs) (suc k) any peer is mine same =
    subst (λ (l : List Row). takes_at (suc k) peer l ≡ true) (sym (with_step r rs k None)) (takes-back rs k any peer is mine same)

-- what it is given stands there
twice : (rows : List Row) (row : ℕ) (any : Any) → with_trial row (Some any) (with_trial row None rows) ≡ with_trial row (Some any) rows
twice [] row any = refl
twice (r ∷ rs) zero any = refl
twice (r ∷ rs) (suc k) any =
    ap (with_trial (suc k) (Some any)) (with_step r rs k None)
    ∙ with_step r (with_trial k None rs) k (Some any)
    ∙ ap (λ (l : List Row). r ∷ l) (twice rs k any)
    ∙ sym (with_step r rs k (Some any))

none-out : (rows : List Row) (row : ℕ) → lifted row rows ≡ None → with_trial row None rows ≡ rows
none-out [] row is = refl
none-out (r ∷ rs) zero is = ap (λ (o : Option Any). record { peer = r.peer; trial = o } ∷ rs) (sym is)
none-out (r ∷ rs) (suc k) is = with_step r rs k None ∙ ap (λ (l : List Row). r ∷ l) (none-out rs k is)

pub changes : (rows : List Row) (row : ℕ) (now : Moment) (change : Change) (any : Any) → lifted row rows ≡ Some any → with_trial row (Some (changed now change any)) (with_trial row None rows) ≡ with_change row now change rows
unfolding with_change
changes rows row now change any is =
    twice rows row (changed now change any) ∙ ap (λ (o : Option Any). changed_at o row now change rows) (sym is)

pub changes-none : (rows : List Row) (row : ℕ) (now : Moment) (change : Change) → lifted row rows ≡ None → with_trial row None rows ≡ with_change row now change rows
unfolding with_change
changes-none rows row now change is = none-out rows row is ∙ ap (λ (o : Option Any). changed_at o row now change rows) (sym is)

-- a trial keeps its peer, whatever is done to it
weighed-peer : (t : Trial probing.Probing) → peer_of_any (after_probe (Ok (weighed t))) ≡ t.peer
weighed-peer t = by (needed t.state.aim t.state.home t.state.careof)
  where
    by : (o : Option Tested) → peer_of_any (after_probe (Ok (proved_where o t))) ≡ t.peer
    by (Some tested) = refl
    by None = refl

pub peer-changed : (now : Moment) (change : Change) (any : Any) → peer_of_any (changed now change any) ≡ peer_of_any any
unfolding changed
peer-changed now (Start aim home careof) (Idle t) = refl
peer-changed now (Start aim home careof) (Probing t) = refl
peer-changed now (Start aim home careof) (Proved t) = refl
peer-changed now (Start aim home careof) (Pending t) = refl
peer-changed now (Start aim home careof) (Bound t) = refl
peer-changed now (HomeTest peer cookie test) (Idle t) = refl
peer-changed now (HomeTest peer cookie test) (Proved t) = refl
peer-changed now (HomeTest peer cookie test) (Pending t) = refl
peer-changed now (HomeTest peer cookie test) (Bound t) = refl
peer-changed now (HomeTest peer cookie test) (Probing t) = by (not (peer.0 == t.peer.0)) (not (cookie.0 == t.state.home_cookie.0))
  where
    by : (other wrong : Bool) → peer_of_any (after_probe (if other then Err (t, refused.NotMine) else if wrong then Err (t, refused.Cookie) else Ok (weighed (with_home test t)))) ≡ t.peer
    by true wrong = refl
    by false true = refl
    by false false = weighed-peer (with_home test t)
peer-changed now (CareofTest peer cookie test) (Idle t) = refl
peer-changed now (CareofTest peer cookie test) (Proved t) = refl
peer-changed now (CareofTest peer cookie test) (Pending t) = refl
peer-changed now (CareofTest peer cookie test) (Bound t) = refl
peer-changed now (CareofTest peer cookie test) (Probing t) = by (not (peer.0 == t.peer.0)) (is_deletion t.state.aim) (not (cookie.0 == t.state.careof_cookie.0))
  where
    by : (other deletes wrong : Bool)
        → peer_of_any (after_probe (if other then Err (t, refused.NotMine) else if deletes then Err (t, refused.Cookie) else if wrong then Err (t, refused.Cookie) else Ok (weighed (with_careof test t)))) ≡ t.peer
    by true deletes wrong = refl
    by false true wrong = refl
    by false false true = refl
    by false false false = weighed-peer (with_careof test t)
peer-changed now Make (Idle t) = refl
peer-changed now Make (Probing t) = refl
peer-changed now Make (Bound t) = refl
peer-changed now Make (Proved t) = by (has_old now t.state.tested) (is_too_soon now t.recent)
  where
    by : (old soon : Bool) → peer_of_any (after_update (if old then Err (t, refused.Old) else if soon then Err (t, refused.TooSoon) else Ok (made_now now t.state.tested t))) ≡ t.peer
    by true soon = refl
    by false true = refl
    by false false = refl
peer-changed now Make (Pending t) = by (has_old now t.state.tested) (is_too_soon now t.recent)
  where
    by : (old soon : Bool) → peer_of_any (after_again (if old then Err (t, refused.Old) else if soon then Err (t, refused.TooSoon) else Ok (made_now now t.state.tested t))) ≡ t.peer
    by true soon = refl
    by false true = refl
    by false false = refl
peer-changed now (Resequence last) (Idle t) = refl
peer-changed now (Resequence last) (Probing t) = refl
peer-changed now (Resequence last) (Proved t) = refl
peer-changed now (Resequence last) (Pending t) = refl
peer-changed now (Resequence last) (Bound t) = refl
peer-changed now (Acknowledge sequence granted) (Idle t) = refl
peer-changed now (Acknowledge sequence granted) (Probing t) = refl
peer-changed now (Acknowledge sequence granted) (Proved t) = refl
peer-changed now (Acknowledge sequence granted) (Bound t) = refl
peer-changed now (Acknowledge sequence granted) (Pending t) = by (not (t.peer.0 == t.peer.0)) (not (sequence == t.state.last)) t.state.tested
  where
    ended : (to : Address) (none : Bool) → peer_of_any (after_end (Ok (if none then ends.Deleted (in_state (record {}) t) else ends.Bound (in_state (record { aim = Bind to }) t)))) ≡ t.peer
    ended to true = refl
    ended to false = refl

    by : (other wrong : Bool) (tested : Tested) → peer_of_any (after_end (if other then Err (t, refused.NotMine) else if wrong then Err (t, refused.NotMine) else Ok (ended_with granted tested t))) ≡ t.peer
    by true wrong tested = refl
    by false true tested = refl
    by false false (Both to home careof) = ended to (granted == 0)
    by false false (Home home) = refl
peer-changed now Rest (Idle t) = refl
peer-changed now Rest (Probing t) = refl
peer-changed now Rest (Proved t) = refl
peer-changed now Rest (Pending t) = refl
peer-changed now Rest (Bound t) = refl

-- a changed trial goes back to its row
pub changed-back : (old new : ListSeen) (row : ℕ) (any trial : Any) (now : Moment) (change : Change) → lifted row old.rows ≡ Some any → new ≡ record { rows = with_trial row None old.rows; timers = old.timers }
    → IsMine old.rows row → trial ≡ changed now change any → takes_at row (peer_of_any trial) new.rows ≡ true
changed-back old new row any trial now change is lifts mine same =
    subst (λ (l : ListSeen). takes_at row (peer_of_any trial) l.rows ≡ true) (sym lifts)
    (takes-back old.rows row any (peer_of_any trial) is mine (ap peer_of_any same ∙ peer-changed now change any))

pub list-changed : (old new last : ListSeen) (row : ℕ) (any trial : Any) (now : Moment) (change : Change) → lifted row old.rows ≡ Some any → new ≡ record { rows = with_trial row None old.rows; timers = old.timers }
    → trial ≡ changed now change any → last ≡ record { rows = with_trial row (Some trial) new.rows; timers = new.timers } → last ≡ record { rows = with_change row now change old.rows; timers = old.timers }
list-changed old new last row any trial now change is lifts same lays =
    lays
    ∙ ap (λ (l : ListSeen). record { rows = with_trial row (Some trial) l.rows; timers = l.timers }) lifts
    ∙ ap (λ (a : Any). record { rows = with_trial row (Some a) (with_trial row None old.rows); timers = old.timers }) same
    ∙ ap (λ (rs : List Row). record { rows = rs; timers = old.timers }) (changes old.rows row now change any is)

pub list-same : (old new : ListSeen) (row : ℕ) (now : Moment) (change : Change) → lifted row old.rows ≡ None → new ≡ record { rows = with_trial row None old.rows; timers = old.timers } → new ≡ record { rows = with_change row now change old.rows; timers = old.timers }
list-same old new row now change is lifts = lifts ∙ ap (λ (rs : List Row). record { rows = rs; timers = old.timers }) (changes-none old.rows row now change is)

pub with-other : (rows : List Row) (row at : ℕ) (any : Any) → (row ≡ at → ⊥) → lifted row (with_trial at (Some any) rows) ≡ lifted row rows
with-other [] row at any other = refl
with-other (r ∷ rs) zero zero any other = absurd (other refl)
with-other (r ∷ rs) (suc k) zero any other = refl
with-other (r ∷ rs) zero (suc i) any other = ap (lifted zero) (with_step r rs i (Some any))
with-other (r ∷ rs) (suc k) (suc i) any other = ap (lifted (suc k)) (with_step r rs i (Some any)) ∙ with-other rs k i any (λ e. other (ap suc e))

pub with-same : (P : Any → Type 0) (rows : List Row) (at : ℕ) (any : Any) → P any → IfSome (lifted at (with_trial at (Some any) rows)) P
with-same P [] at any is = tt
with-same P (r ∷ rs) zero any is = is
with-same P (r ∷ rs) (suc i) any is = subst (λ (rows : List Row). IfSome (lifted (suc i) rows) P) (sym (with_step r rs i (Some any))) (with-same P rs i any is)

-- each trial stays with its row's peer
pub mine-changed : (rows : List Row) (at : ℕ) (now : Moment) (change : Change) → AreMine rows → AreMine (with_change at now change rows)
unfolding with_change
mine-changed rows at now change mine row = by (lifted at rows) refl (row == at) refl
  where
    by : (o : Option Any) → lifted at rows ≡ o → (same : Bool) → row == at ≡ same → IsMine (changed_at o at now change rows) row
    by None is same e = mine row
    by (Some any) is false other =
        let x = changed now change any in
        subst (λ (o : Option Any). IfSome o (λ a. peer_at row (with_trial at (Some x) rows) ≡ Some (peer_of_any a))) (sym (with-other rows row at x (eqb-false row at other)))
        (subst (λ (p : Option Address). IfSome (lifted row rows) (λ a. p ≡ Some (peer_of_any a))) (sym (peer_kept rows row at (Some x))) (mine row))
    by (Some any) is true same =
        let x = changed now change any in
        let own : peer_at at rows ≡ Some (peer_of_any any) = subst (λ (o : Option Any). IfSome o (λ a. peer_at at rows ≡ Some (peer_of_any a))) is (mine at) in
        subst (λ (n : ℕ). IsMine (with_trial at (Some x) rows) n) (sym (eqb-true row at same))
        (with-same (λ a. peer_at at (with_trial at (Some x) rows) ≡ Some (peer_of_any a)) rows at x
        (peer_kept rows at at (Some x) ∙ own ∙ ap (λ (p : Address). Some p) (sym (peer-changed now change any))))

appended : (rows : List Row) (row : ℕ) (peer : Address) → IsMine rows row → IsMine (rows ++ new_row peer ∷ []) row
appended [] zero peer mine = refl
appended [] (suc k) peer mine = tt
appended (r ∷ rs) zero peer mine = mine
appended (r ∷ rs) (suc k) peer mine = appended rs k peer mine

pub mine-met : (rows : List Row) (peer : Address) → AreMine rows → AreMine (with_row peer rows)
mine-met rows peer mine row = by (row_place peer rows)
  where
    if-room : (room : Bool) → IsMine (if room then rows ++ new_row peer ∷ [] else rows) row
    if-room true = appended rows row peer (mine row)
    if-room false = mine row

    by : (place : Option ℕ) → IsMine (rows_given place peer rows) row
    by (Some i) = mine row
    by None = if-room (nat_lt (length rows) 16)

resting-peer : (any : Any) → peer_of_any any ≡ peer_of_any (Idle (resting any))
resting-peer (Idle t) = refl
resting-peer (Probing t) = refl
resting-peer (Proved t) = refl
resting-peer (Pending t) = refl
resting-peer (Bound t) = refl

rested : (rows : List Row) (row : ℕ) → IsMine rows row → IsMine (all_rested rows) row
rested [] row mine = tt
rested (r ∷ rs) zero mine = by r.trial mine
  where
    by : (o : Option Any) → IfSome o (λ any. Some r.peer ≡ Some (peer_of_any any)) → IfSome (option_map (λ any. Idle (resting any)) o) (λ any. Some r.peer ≡ Some (peer_of_any any))
    by None is = tt
    by (Some any) is = is ∙ ap (λ (a : Address). Some a) (resting-peer any)
rested (r ∷ rs) (suc k) mine = rested rs k mine

pub mine-rested : (rows : List Row) → AreMine rows → AreMine (all_rested rows)
mine-rested rows mine row = rested rows row (mine row)
