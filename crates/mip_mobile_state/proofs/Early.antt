-- The updates of trials were made before the end of clocks, whatever is done to them.
use Rattle.std.proofs.Common.{◌≡◌, ℕ, zero, suc, ◌<◌, ◌^◌, List, [], ◌∷◌, ◌++◌, length, nat_lt, Bool, true, false, refl, sym, subst}
use Rattle.std.specs.Prelude.{Option, Some, None, IfSome, Ok, Err, option_map, not, ◌==◌, if◌then◌else◌}
use Rattle.std.proofs.lemmas.Bool.{eqb-true, eqb-false}
use Rattle.mip_words.specs.declared.address.Address.{Address}
use Rattle.mip_words.specs.declared.moment.Moment.{Moment}
use Rattle.mip_bulist.specs.declared.aim.Aim.TheVariants.{Bind}
use Rattle.mip_bulist.specs.declared.any.Any.{Any}
use Rattle.mip_bulist.specs.declared.any.Any.TheVariants.{Idle, Probing, Proved, Pending, Bound}
use Rattle.mip_bulist.specs.declared.refused.Refused.TheVariants as refused
use Rattle.mip_bulist.specs.declared.row.Row.{Row}
use Rattle.mip_bulist.specs.declared.state.Probing as probing
use Rattle.mip_bulist.specs.declared.tested.Tested.{Tested}
use Rattle.mip_bulist.specs.declared.tested.Tested.TheVariants.{Both, Home}
use Rattle.mip_bulist.specs.declared.trial.Ended.TheVariants as ends
use Rattle.mip_bulist.specs.declared.trial.Trial.{Trial}
use Rattle.mip_bulist.specs.Rows.{lifted, with_trial, with_row, rows_given, row_place, new_row, resting, all_rested}
use Rattle.mip_bulist.specs.Trials.{needed, proved_where, weighed, with_home, with_careof, is_deletion, has_old, is_too_soon, made_now, ended_with, in_state}
use Rattle.mip_rules_mobile.specs.Trials.{Change, Start, HomeTest, CareofTest, Make, Resequence, Acknowledge, Rest, after_probe, after_update, after_again, after_end, changed, changed_at, with_change}
use Rattle.mip_mobile_state.specs.Early.{IsEarly, AreEarly}
use Rattle.mip_mobile_state.proofs.Rows.{with-other, with-same}

early-weighed : (t : Trial probing.Probing) → IsEarly (Probing t) → IsEarly (after_probe (Ok (weighed t)))
early-weighed t is = by (needed t.state.aim t.state.home t.state.careof)
  where
    by : (o : Option Tested) → IsEarly (after_probe (Ok (proved_where o t)))
    by (Some tested) = is
    by None = is

-- only an update changes when the last one was made
early-any : (now : Moment) (change : Change) (any : Any) → now.0 < 2 ^ 62 → IsEarly any → IsEarly (changed now change any)
unfolding changed
early-any now (Start aim home careof) (Idle t) at is = is
early-any now (Start aim home careof) (Probing t) at is = is
early-any now (Start aim home careof) (Proved t) at is = is
early-any now (Start aim home careof) (Pending t) at is = is
early-any now (Start aim home careof) (Bound t) at is = is
early-any now (HomeTest peer cookie test) (Idle t) at is = is
early-any now (HomeTest peer cookie test) (Proved t) at is = is
early-any now (HomeTest peer cookie test) (Pending t) at is = is
early-any now (HomeTest peer cookie test) (Bound t) at is = is
early-any now (HomeTest peer cookie test) (Probing t) at is = by (not (peer.0 == t.peer.0)) (not (cookie.0 == t.state.home_cookie.0))
  where
    by : (other wrong : Bool) → IsEarly (after_probe (if other then Err (t, refused.NotMine) else if wrong then Err (t, refused.Cookie) else Ok (weighed (with_home test t))))
    by true wrong = is
    by false true = is
    by false false = early-weighed (with_home test t) is
early-any now (CareofTest peer cookie test) (Idle t) at is = is
early-any now (CareofTest peer cookie test) (Proved t) at is = is
early-any now (CareofTest peer cookie test) (Pending t) at is = is
early-any now (CareofTest peer cookie test) (Bound t) at is = is
early-any now (CareofTest peer cookie test) (Probing t) at is = by (not (peer.0 == t.peer.0)) (is_deletion t.state.aim) (not (cookie.0 == t.state.careof_cookie.0))
  where
    by : (other deletes wrong : Bool)
        → IsEarly (after_probe (if other then Err (t, refused.NotMine) else if deletes then Err (t, refused.Cookie) else if wrong then Err (t, refused.Cookie) else Ok (weighed (with_careof test t))))
    by true deletes wrong = is
    by false true wrong = is
    by false false true = is
    by false false false = early-weighed (with_careof test t) is
early-any now Make (Idle t) at is = is
early-any now Make (Probing t) at is = is
early-any now Make (Bound t) at is = is
early-any now Make (Proved t) at is = by (has_old now t.state.tested) (is_too_soon now t.recent)
  where
    by : (old soon : Bool) → IsEarly (after_update (if old then Err (t, refused.Old) else if soon then Err (t, refused.TooSoon) else Ok (made_now now t.state.tested t)))
    by true soon = is
    by false true = is
    by false false = at
early-any now Make (Pending t) at is = by (has_old now t.state.tested) (is_too_soon now t.recent)
  where
    by : (old soon : Bool) → IsEarly (after_again (if old then Err (t, refused.Old) else if soon then Err (t, refused.TooSoon) else Ok (made_now now t.state.tested t)))
    by true soon = is
    by false true = is
    by false false = at
early-any now (Resequence last) (Idle t) at is = is
early-any now (Resequence last) (Probing t) at is = is
early-any now (Resequence last) (Proved t) at is = is
early-any now (Resequence last) (Pending t) at is = is
early-any now (Resequence last) (Bound t) at is = is
early-any now (Acknowledge sequence granted) (Idle t) at is = is
early-any now (Acknowledge sequence granted) (Probing t) at is = is
early-any now (Acknowledge sequence granted) (Proved t) at is = is
early-any now (Acknowledge sequence granted) (Bound t) at is = is
early-any now (Acknowledge sequence granted) (Pending t) at is = by (not (t.peer.0 == t.peer.0)) (not (sequence == t.state.last)) t.state.tested
  where
    ended : (to : Address) (none : Bool) → IsEarly (after_end (Ok (if none then ends.Deleted (in_state (record {}) t) else ends.Bound (in_state (record { aim = Bind to }) t))))
    ended to true = is
    ended to false = is

    by : (other wrong : Bool) (tested : Tested) → IsEarly (after_end (if other then Err (t, refused.NotMine) else if wrong then Err (t, refused.NotMine) else Ok (ended_with granted tested t)))
    by true wrong tested = is
    by false true tested = is
    by false false (Both to home careof) = ended to (granted == 0)
    by false false (Home home) = is
early-any now Rest (Idle t) at is = is
early-any now Rest (Probing t) at is = is
early-any now Rest (Proved t) at is = is
early-any now Rest (Pending t) at is = is
early-any now Rest (Bound t) at is = is

pub early-changed : (rows : List Row) (at : ℕ) (now : Moment) (change : Change) → now.0 < 2 ^ 62 → AreEarly rows → AreEarly (with_change at now change rows)
unfolding with_change
early-changed rows at now change low early row = by (lifted at rows) refl (row == at) refl
  where
    by : (o : Option Any) → lifted at rows ≡ o → (same : Bool) → row == at ≡ same → IfSome (lifted row (changed_at o at now change rows)) IsEarly
    by None is same e = early row
    by (Some any) is false other =
        subst (λ (o : Option Any). IfSome o IsEarly) (sym (with-other rows row at (changed now change any) (eqb-false row at other))) (early row)
    by (Some any) is true same =
        let one : IsEarly any = subst (λ (o : Option Any). IfSome o IsEarly) is (early at) in
        subst (λ (n : ℕ). IfSome (lifted n (with_trial at (Some (changed now change any)) rows)) IsEarly) (sym (eqb-true row at same))
        (with-same IsEarly rows at (changed now change any) (early-any now change any low one))

appended : (rows : List Row) (row : ℕ) (peer : Address) → IfSome (lifted row rows) IsEarly → IfSome (lifted row (rows ++ new_row peer ∷ [])) IsEarly
appended [] zero peer early = tt
appended [] (suc k) peer early = tt
appended (r ∷ rs) zero peer early = early
appended (r ∷ rs) (suc k) peer early = appended rs k peer early

pub early-met : (rows : List Row) (peer : Address) → AreEarly rows → AreEarly (with_row peer rows)
early-met rows peer early row = by (row_place peer rows)
  where
    if-room : (room : Bool) → IfSome (lifted row (if room then rows ++ new_row peer ∷ [] else rows)) IsEarly
    if-room true = appended rows row peer (early row)
    if-room false = early row

    by : (place : Option ℕ) → IfSome (lifted row (rows_given place peer rows)) IsEarly
    by (Some i) = early row
    by None = if-room (nat_lt (length rows) 16)

early-resting : (any : Any) → IsEarly any → IsEarly (Idle (resting any))
early-resting (Idle t) is = is
early-resting (Probing t) is = is
early-resting (Proved t) is = is
early-resting (Pending t) is = is
early-resting (Bound t) is = is

rested : (rows : List Row) (row : ℕ) → IfSome (lifted row rows) IsEarly → IfSome (lifted row (all_rested rows)) IsEarly
rested [] row early = tt
rested (r ∷ rs) zero early = by r.trial early
  where
    by : (o : Option Any) → IfSome o IsEarly → IfSome (option_map (λ any. Idle (resting any)) o) IsEarly
    by None is = tt
    by (Some any) is = early-resting any is
rested (r ∷ rs) (suc k) early = rested rs k early

pub early-rested : (rows : List Row) → AreEarly rows → AreEarly (all_rested rows)
early-rested rows early row = rested rows row (early row)
