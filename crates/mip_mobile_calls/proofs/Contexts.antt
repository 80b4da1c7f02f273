-- A transition by what a context shows of it.
use Rattle.std.proofs.Common.{◌≡◌, ℕ, List, sym, ap, ◌∙◌, subst}
use Rattle.mip_rules_mobile.specs.Steps.{Step}
use Rattle.mip_rules_mobile.specs.Known.{Known}
use Rattle.mip_rules_mobile.specs.Transitions.{Transition}
use Rattle.mip_mobile_registration.specs.Seen.{ContextSeen, Shows}
use Rattle.mip_mobile_registration.proofs.Noted.{shows-known, shows-moment}

-- the transition that a context shows, whose steps it doesn't show
abbrev pub transition_at : ContextSeen → List Step → Transition
transition_at d steps = record { now = d.moment; known = d.known; steps = steps }

-- what is so for each transition with the context's moment and what the context knows is so for each that it shows
pub from-context : (d : ContextSeen) (P : Transition → Type 0) → ((steps : List Step) → Shows d (transition_at d steps) → P (transition_at d steps)) → (t : Transition) → Shows d t → P t
from-context d P holds t shows =
    let is : t ≡ transition_at d t.steps =
    ap (λ (n : ℕ). record { now = n; known = t.known; steps = t.steps }) (shows-moment d t shows)
    ∙ ap (λ (k : Known). record { now = d.moment; known = k; steps = t.steps }) (shows-known d t shows) in
    subst P (sym is) (holds t.steps (subst (λ (u : Transition). Shows d u) is shows))
