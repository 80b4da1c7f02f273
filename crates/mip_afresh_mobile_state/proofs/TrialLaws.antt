-- What changes make of trials, as plain data.
use Rattle.std.proofs.Common.{◌≡◌, ℕ, Bool, true, false, refl, ap, arith}
use Rattle.std.specs.Prelude.{if◌then◌else◌, ◌==◌, Ok, Err}
use Rattle.std.proofs.lemmas.Bool.Decides.{nat_tests}
use Rattle.mip_words.specs.declared.address.Address.{Address}
use Rattle.mip_words.specs.declared.moment.Moment.{Moment}
use Rattle.mip_bulist.specs.declared.any.Any.TheVariants as any
use Rattle.mip_bulist.specs.declared.state.Pending as pending
use Rattle.mip_bulist.specs.declared.state.Proved as proved
use Rattle.mip_bulist.specs.declared.refused.Refused.TheVariants as refused
use Rattle.mip_bulist.specs.Rows.{resting}
use Rattle.mip_bulist.specs.Trials.{has_old, is_too_soon, updated, made_again, made_now}
use Rattle.mip_rules_mobile.specs.Trials.{after_update, after_again}
use Rattle.mip_afresh_mobile_state.specs.declared.trial.Trial.{Trial}
use Rattle.mip_afresh_mobile_state.specs.declared.trial.Tested.{Tested}
use Rattle.mip_afresh_mobile_state.specs.declared.trial.Stage.{Stage}
use Rattle.mip_afresh_mobile_state.specs.declared.trial.Stage.TheVariants as stages
use Rattle.mip_afresh_mobile_state.specs.Trials.{trial_in, staged, any_seen, tested_seen, recent_seen, having_made}

-- whatever is under way is given up
pub resting_seen : (peer : Address) (t : Trial) → resting (any_seen peer t) ≡ trial_in peer t (record {})
resting_seen peer t = by t.stage
  where
    by : (stage : Stage) → resting (staged peer t stage) ≡ trial_in peer t (record {})
    by stages.Idle = refl
    by (stages.Probing aim home careof h c) = refl
    by (stages.Proved tested) = refl
    by (stages.Pending tested last) = refl
    by (stages.Bound aim) = refl

-- what making an update leaves
abbrev pub if_made : Moment → Tested → Trial → Trial
if_made now tested t = if has_old now (tested_seen tested) then t else if is_too_soon now (recent_seen t) then t else having_made now tested t

pub made_first : (now : Moment) (peer : Address) (tested : Tested) (t : Trial) → t.stage ≡ stages.Proved tested
    → any_seen peer (if_made now tested t) ≡ after_update (updated now (trial_in peer t (record { tested = tested_seen tested })))
made_first now peer tested t is = by (has_old now (tested_seen tested)) (is_too_soon now (recent_seen t))
  where
    here : any_seen peer t ≡ any.Proved (trial_in peer t (record { tested = tested_seen tested }))
    here = ap (staged peer t) is

    by : (old soon : Bool) → any_seen peer (if old then t else if soon then t else having_made now tested t)
        ≡ after_update (if old then Err (trial_in peer t (record { tested = tested_seen tested }), refused.Old) else if soon then Err (trial_in peer t (record { tested = tested_seen tested }), refused.TooSoon) else Ok (made_now {S = proved.Proved} now (tested_seen tested) (trial_in peer t (record { tested = tested_seen tested }))))
    by true soon = here
    by false true = here
    by false false = refl

pub made_later : (now : Moment) (peer : Address) (tested : Tested) (last : ℕ) (t : Trial) → t.stage ≡ stages.Pending tested last
    → any_seen peer (if_made now tested t) ≡ after_again (made_again now (trial_in peer t (record { tested = tested_seen tested; last = last })))
made_later now peer tested last t is = by (has_old now (tested_seen tested)) (is_too_soon now (recent_seen t))
  where
    here : any_seen peer t ≡ any.Pending (trial_in peer t (record { tested = tested_seen tested; last = last }))
    here = ap (staged peer t) is

    by : (old soon : Bool) → any_seen peer (if old then t else if soon then t else having_made now tested t)
        ≡ after_again (if old then Err (trial_in peer t (record { tested = tested_seen tested; last = last }), refused.Old) else if soon then Err (trial_in peer t (record { tested = tested_seen tested; last = last }), refused.TooSoon) else Ok (made_now {S = pending.Pending} now (tested_seen tested) (trial_in peer t (record { tested = tested_seen tested; last = last }))))
    by true soon = here
    by false true = here
    by false false = refl

-- a peer acknowledges its own trial
pub own_peer : (peer : Address) → (peer.0 == peer.0) ≡ true
own_peer peer = grind (arith, nat_tests)
