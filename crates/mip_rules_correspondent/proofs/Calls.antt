-- Whoever stands for a past stands, after a call, for the past with it.
use Rattle.std.proofs.Common.{ℕ, List}
use Rattle.mip_entries.specs.Stamped.{Stamped}
use Rattle.mip_entries.proofs.TransitionLaws.{stands-noted, stands-begun}
use Rattle.mip_rules_correspondent.specs.declared.identity.Identity.{Identity}
use Rattle.mip_rules_correspondent.specs.declared.known.Known.{Known}
use Rattle.mip_rules_correspondent.specs.Calls.{Call}
use Rattle.mip_rules_correspondent.specs.Steps.{Step, Called}
use Rattle.mip_rules_correspondent.specs.Questions.{after, fresh}
use Rattle.mip_rules_correspondent.specs.Transitions.{Transition, begun, Stands, with_transition}
use Rattle.mip_rules_correspondent.specs.Doing.{transition_of}
use Rattle.mip_rules_correspondent.proofs.Walks.{every-call}

pub call-stands : (room numbers : ℕ) (past : List (Stamped Step)) (k : Known) (now : ℕ) (me : Identity) (c : Call) → Stands room numbers past k
    → Stands room numbers (with_transition past (transition_of me k now c)) (transition_of me k now c).known
call-stands room numbers past k now me c stands =
    every-call me c (λ (t : Transition). Stands room numbers (with_transition past t) t.known)
    (λ step t silent own s. stands-noted after (fresh room numbers) past step t s)
    (λ t s. stands-noted after (fresh room numbers) past (Called c) t s)
    (begun now k) (stands-begun after (fresh room numbers) past now k stands)
