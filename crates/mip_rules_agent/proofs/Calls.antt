-- Whoever stands for a past stands, after a call, for the past with it.
use Rattle.std.proofs.Common.{ℕ, List}
use Rattle.mip_words.specs.declared.address.Address.{Address}
use Rattle.mip_entries.specs.Stamped.{Stamped}
use Rattle.mip_entries.proofs.TransitionLaws.{stands-noted, stands-begun}
use Rattle.mip_rules_agent.specs.declared.identity.Identity.{Identity}
use Rattle.mip_rules_agent.specs.Known.{Known}
use Rattle.mip_rules_agent.specs.Calls.{Call}
use Rattle.mip_rules_agent.specs.Steps.{Step, Called}
use Rattle.mip_rules_agent.specs.Questions.{after, fresh}
use Rattle.mip_rules_agent.specs.Transitions.{Transition, begun, Stands, with_transition}
use Rattle.mip_rules_agent.specs.Doing.{transition_of}
use Rattle.mip_rules_agent.proofs.Walks.{every-call}

pub call-stands : (serves : List Address) (past : List (Stamped Step)) (k : Known) (now : ℕ) (me : Identity) (c : Call) → Stands serves past k
    → Stands serves (with_transition past (transition_of me k now c)) (transition_of me k now c).known
call-stands serves past k now me c stands =
    every-call me (λ (t : Transition). Stands serves (with_transition past t) t.known) c
    (λ step t silent own s. stands-noted after (fresh serves) past step t s)
    (λ t s. stands-noted after (fresh serves) past (Called c) t s)
    (begun now k) (stands-begun after (fresh serves) past now k stands)
