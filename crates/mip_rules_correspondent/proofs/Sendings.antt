-- Whatever a call sends is a packet that a correspondent sends at its moment.
use Rattle.std.proofs.Common.{◌≡◌, ℕ, List, [], ◌∷◌, ◌++◌, refl, sym, ◌∙◌, subst}
use Rattle.std.specs.List.{AllByRecursion}
use Rattle.mip_entries.proofs.TransitionLaws.{noted-now, noted-steps}
use Rattle.mip_rules_correspondent.specs.declared.identity.Identity.{Identity}
use Rattle.mip_rules_correspondent.specs.declared.known.Known.{Known}
use Rattle.mip_rules_correspondent.specs.Calls.{Call}
use Rattle.mip_rules_correspondent.specs.Steps.{Step, Called}
use Rattle.mip_rules_correspondent.specs.Questions.{after}
use Rattle.mip_rules_correspondent.specs.Transitions.{Transition, begun, noted}
use Rattle.mip_rules_correspondent.specs.Doing.{transition_of}
use Rattle.mip_rules_correspondent.specs.Sendings.{SendsOwn}
use Rattle.mip_rules_correspondent.proofs.Walks.{every-call}

module _ (me : Identity) (c : Call) (now : ℕ) where
  own-push : (steps : List Step) (step : Step) → AllByRecursion (SendsOwn me c now) steps → SendsOwn me c now step → AllByRecursion (SendsOwn me c now) (steps ++ step ∷ [])
  own-push [] step all own = (own, tt)
  own-push (s ∷ steps) step all own = (all.0, own-push steps step all.1 own)

  -- the transition is at this moment, and what it sent so far is its own
  abbrev IsOwn : Transition → Type 0
  IsOwn t = (t.now ≡ now) × AllByRecursion (SendsOwn me c now) t.steps

  own-noted : (step : Step) (t : Transition) → SendsOwn me c t.now step → IsOwn t → IsOwn (noted step t)
  own-noted step t own is = (
    noted-now after step t ∙ is.0,
    subst (AllByRecursion (SendsOwn me c now)) (sym (noted-steps after step t)) (own-push t.steps step is.1 (subst (λ (n : ℕ). SendsOwn me c n step) is.0 own)),
  )

pub call-own : (me : Identity) (k : Known) (now : ℕ) (c : Call) → AllByRecursion (SendsOwn me c now) (transition_of me k now c).steps
call-own me k now c =
    let own = every-call me c (IsOwn me c now) (λ step t silent sends is. own-noted me c now step t sends is) (λ t is. own-noted me c now (Called c) t tt is) (begun now k) (refl, tt) in own.1
