-- Whose word each step of a call takes, and what stands right before it.
use Rattle.std.proofs.Common.{◌≡◌, ℕ, List, [], ◌∷◌, ◌++◌, refl, sym, subst}
use Rattle.std.specs.Prelude.{Option, Some, None}
use Rattle.mip_entries.proofs.TransitionLaws.{noted-steps}
use Rattle.mip_rules_mobile.specs.Calls.{Call}
use Rattle.mip_rules_mobile.specs.Trials.{HomeTest, Acknowledge}
use Rattle.mip_rules_mobile.specs.Steps.{Step, Called, Parts, Notes, Drops, Registers, Unregisters, IsRefused, Resequences, Tries, Binds}
use Rattle.mip_rules_mobile.specs.Known.{Known}
use Rattle.mip_rules_mobile.specs.Questions.{after}
use Rattle.mip_rules_mobile.specs.Transitions.{Transition, begun, noted}
use Rattle.mip_rules_mobile.specs.Doing.{transition_of}
use Rattle.mip_rules_mobile.specs.Resting.{EachStep, IsAgentsAnswer, IsPeersAnswer, IsTestTunnelled, IsLed, AreLed, last_step}
use Rattle.mip_rules_mobile.specs.Fitting.{Fits, EachFits, kind_of, OfMove, Steady}
use Rattle.mip_rules_mobile.proofs.Fits.{known_along, IsAlong, along-noted, call-fits}
use Rattle.mip_rules_mobile.proofs.Walks.{every-call}

-- what follows of each step that fits holds of each
module _ (R : Known → Step → Type 0) (c : Call) (now : ℕ) (one : (k : Known) (step : Step) → Fits c now k step → R k step) where
  each-step : (k : Known) (steps : List Step) → EachFits c now k steps → EachStep R now k steps
  each-step k [] each = tt
  each-step k (step ∷ steps) each = (one k step each.0, each-step (after k (record { at = now; step = step })) steps each.1)

agents-answer : (c : Call) (now : ℕ) (k : Known) (step : Step) → Fits c now k step → IsAgentsAnswer c k step
agents-answer c now k (Registers agent end renew) fits = fits.1
agents-answer c now k (Unregisters agent) fits = fits
agents-answer c now k (IsRefused status) fits = fits
agents-answer c now k (Resequences agent last) fits = fits
agents-answer c now k _ fits = tt

peers-answer : (c : Call) (now : ℕ) (k : Known) (step : Step) → Fits c now k step → IsPeersAnswer c now k step
peers-answer c now k (Tries row (Acknowledge sequence granted)) fits = fits
peers-answer c now k _ fits = tt

test-tunnelled : (c : Call) (now : ℕ) (k : Known) (step : Step) → Fits c now k step → IsTestTunnelled c now k step
test-tunnelled c now k (Tries row (HomeTest peer cookie test)) fits = fits.way refl
test-tunnelled c now k _ fits = tt

pub call-agents : (k : Known) (now : ℕ) (c : Call) → EachStep (IsAgentsAnswer c) now k (transition_of k now c).steps
call-agents k now c = each-step (IsAgentsAnswer c) c now (agents-answer c now) k (transition_of k now c).steps (call-fits k now c)

pub call-peers : (k : Known) (now : ℕ) (c : Call) → EachStep (IsPeersAnswer c now) now k (transition_of k now c).steps
call-peers k now c = each-step (IsPeersAnswer c now) c now (peers-answer c now) k (transition_of k now c).steps (call-fits k now c)

pub call-tests : (k : Known) (now : ℕ) (c : Call) → EachStep (IsTestTunnelled c now) now k (transition_of k now c).steps
call-tests k now c = each-step (IsTestTunnelled c now) c now (test-tunnelled c now) k (transition_of k now c).steps (call-fits k now c)

-- one step more
led-push : (now : ℕ) (k : Known) (before : Option Step) (steps : List Step) (step : Step) → IsLed now (known_along k now steps) (last_step before steps) step → AreLed now k before steps
    → AreLed now k before (steps ++ step ∷ [])
led-push now k before [] step led are = (led, tt)
led-push now k before (s ∷ steps) step led are = (are.0, led-push now (after k (record { at = now; step = s })) (Some s) steps step led are.1)

module _ (c : Call) (now : ℕ) (k : Known) where
  -- a transition at this moment, whose steps stand behind what leads to them
  record IsLedAlong (t : Transition) : Type 0 where
    along : IsAlong c now k t
    led : AreLed now k None t.steps

  led-noted : (step : Step) (t : Transition) → Fits c t.now t.known step → IsLed t.now t.known (last_step None t.steps) step → IsLedAlong t → IsLedAlong (noted step t)
  led-noted step t fits led is = record {
    along = along-noted c now k step t fits is.along;
    led =
        subst (AreLed now k None) (sym (noted-steps after step t))
        (led-push now k None t.steps step
        (subst (λ (l : Known). IsLed now l (last_step None t.steps) step) is.along.known (subst (λ (n : ℕ). IsLed n t.known (last_step None t.steps) step) is.along.moment led)) is.led);
  }

steady-led : (now : ℕ) (k : Known) (before : Option Step) (step : Step) → kind_of step ≡ Steady → IsLed now k before step
steady-led now k before (Binds row peer end renew) is = absurd cc
steady-led now k before _ is = tt

move-led : (now : ℕ) (k : Known) (before : Option Step) (step : Step) → kind_of step ≡ OfMove → IsLed now k before step
move-led now k before (Binds row peer end renew) is = absurd cc
move-led now k before _ is = tt

pub call-led : (k : Known) (now : ℕ) (c : Call) → AreLed now k None (transition_of k now c).steps
call-led k now c =
    let whole : IsLedAlong c now k (transition_of k now c) =
    every-call c (IsLedAlong c now k)
    (λ step t steady fits is. led-noted c now k step t fits (steady-led t.now t.known (last_step None t.steps) step steady) is)
    (λ call t is. led-noted c now k (Parts call) t tt tt is)
    (λ entry t own is. led-noted c now k (Notes entry) t own tt is)
    (λ step t ack fits led is. led-noted c now k step t fits led is)
    (λ step t move fits is. led-noted c now k step t fits (move-led t.now t.known (last_step None t.steps) step move) is)
    (λ number why t right is. led-noted c now k (Drops number why) t right tt is)
    (λ t is. led-noted c now k (Called c) t refl tt is)
    (begun now k) (record { along = record { moment = refl; known = refl; each = tt }; led = tt }) in
    whole.led
