-- Each step of a call fits where it is taken.
use Rattle.std.proofs.Common.{◌≡◌, ℕ, List, [], ◌∷◌, ◌++◌, refl, sym, ap, ◌∙◌, subst}
use Rattle.mip_entries.specs.Stamped.{stamped}
use Rattle.mip_entries.specs.Transitions.{known_by}
use Rattle.mip_entries.proofs.TransitionLaws.{noted-now, noted-known, noted-steps}
use Rattle.mip_rules_mobile.specs.Calls.{Call}
use Rattle.mip_rules_mobile.specs.Steps.{Step, Called, Parts, Notes, Drops}
use Rattle.mip_rules_mobile.specs.Known.{Known}
use Rattle.mip_rules_mobile.specs.Questions.{after}
use Rattle.mip_rules_mobile.specs.Transitions.{Transition, begun, noted}
use Rattle.mip_rules_mobile.specs.Doing.{transition_of}
use Rattle.mip_rules_mobile.specs.Fitting.{Fits, EachFits}
use Rattle.mip_rules_mobile.proofs.Walks.{every-call}

-- what steps of one moment leave known
abbrev pub known_along : Known → ℕ → List Step → Known
known_along k now steps = known_by after k (stamped now steps)

module _ (c : Call) (now : ℕ) where
  along-push : (k : Known) (steps : List Step) (step : Step) → known_along k now (steps ++ step ∷ []) ≡ after (known_along k now steps) (record { at = now; step = step })
  along-push k [] step = refl
  along-push k (s ∷ steps) step = along-push (after k (record { at = now; step = s })) steps step

  fits-push : (k : Known) (steps : List Step) (step : Step) → EachFits c now k steps → Fits c now (known_along k now steps) step → EachFits c now k (steps ++ step ∷ [])
  fits-push k [] step each fits = (fits, tt)
  fits-push k (s ∷ steps) step each fits = (each.0, fits-push (after k (record { at = now; step = s })) steps step each.1 fits)

  -- the transition is at this moment, knows what its steps leave known, and each of them fits
  pub record IsAlong (k : Known) (t : Transition) : Type 0 where
    pub moment : t.now ≡ now
    pub known : t.known ≡ known_along k now t.steps
    pub each : EachFits c now k t.steps

  pub along-noted : (k : Known) (step : Step) (t : Transition) → Fits c t.now t.known step → IsAlong k t → IsAlong k (noted step t)
  along-noted k step t fits is = record {
    moment = noted-now after step t ∙ is.moment;
    known =
        noted-known after step t
        ∙ ap (λ (n : ℕ). after t.known (record { at = n; step = step })) is.moment
        ∙ ap (λ (l : Known). after l (record { at = now; step = step })) is.known
        ∙ sym (along-push k t.steps step)
        ∙ ap (known_along k now) (sym (noted-steps after step t));
    each =
        subst (EachFits c now k) (sym (noted-steps after step t))
        (fits-push k t.steps step is.each
        (subst (λ (l : Known). Fits c now l step) is.known (subst (λ (n : ℕ). Fits c n t.known step) is.moment fits)));
  }

pub call-along : (k : Known) (now : ℕ) (c : Call) → IsAlong c now k (transition_of k now c)
call-along k now c =
    every-call c (IsAlong c now k)
    (λ step t steady fits is. along-noted c now k step t fits is)
    (λ call t is. along-noted c now k (Parts call) t tt is)
    (λ entry t own is. along-noted c now k (Notes entry) t own is)
    (λ step t ack fits led is. along-noted c now k step t fits is)
    (λ step t move fits is. along-noted c now k step t fits is)
    (λ number why t right is. along-noted c now k (Drops number why) t right is)
    (λ t is. along-noted c now k (Called c) t refl is)
    (begun now k) (record { moment = refl; known = refl; each = tt })

pub call-fits : (k : Known) (now : ℕ) (c : Call) → EachFits c now k (transition_of k now c).steps
call-fits k now c = let is = call-along k now c in is.each
