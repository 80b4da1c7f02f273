-- Whatever a call sends is a packet that a home agent sends.
use Rattle.std.proofs.Common.{ℕ, List, [], ◌∷◌, ◌++◌, sym, subst}
use Rattle.std.specs.List.{AllByRecursion}
use Rattle.mip_entries.proofs.TransitionLaws.{noted-steps}
use Rattle.mip_rules_agent.specs.declared.identity.Identity.{Identity}
use Rattle.mip_rules_agent.specs.Known.{Known}
use Rattle.mip_rules_agent.specs.Calls.{Call}
use Rattle.mip_rules_agent.specs.CallsLaws.{bytes_of}
use Rattle.mip_rules_agent.specs.Steps.{Step, Called}
use Rattle.mip_rules_agent.specs.Questions.{after}
use Rattle.mip_rules_agent.specs.Transitions.{Transition, begun, noted}
use Rattle.mip_rules_agent.specs.Doing.{transition_of}
use Rattle.mip_rules_agent.specs.Sendings.{SendsOwn}
use Rattle.mip_rules_agent.proofs.Walks.{every-call}

module _ (Q : Step → Type 0) where
  all-push : (steps : List Step) (step : Step) → AllByRecursion Q steps → Q step → AllByRecursion Q (steps ++ step ∷ [])
  all-push [] step all own = (own, tt)
  all-push (s ∷ steps) step all own = (all.0, all-push steps step all.1 own)

  -- a fact of each step so far
  pub all-noted : (step : Step) (t : Transition) → Q step → AllByRecursion Q t.steps → AllByRecursion Q (noted step t).steps
  all-noted step t own all = subst (AllByRecursion Q) (sym (noted-steps after step t)) (all-push t.steps step all own)

pub call-own : (me : Identity) (k : Known) (now : ℕ) (c : Call) → AllByRecursion (SendsOwn me (bytes_of c)) (transition_of me k now c).steps
call-own me k now c =
    every-call me (λ (t : Transition). AllByRecursion (SendsOwn me (bytes_of c)) t.steps) c
    (λ step t silent own all. all-noted (SendsOwn me (bytes_of c)) step t own all)
    (λ t all. all-noted (SendsOwn me (bytes_of c)) (Called c) t tt all)
    (begun now k) tt
