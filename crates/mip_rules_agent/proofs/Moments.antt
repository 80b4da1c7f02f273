-- The last moment that a call leaves known is its own.
use Rattle.std.proofs.Common.{◌≡◌, ℕ, false, ap, ◌∙◌}
use Rattle.std.specs.Prelude.{if◌then◌else◌, Bool}
use Rattle.mip_entries.proofs.TransitionLaws.{noted-now, noted-known}
use Rattle.mip_rules_agent.specs.declared.identity.Identity.{Identity}
use Rattle.mip_rules_agent.specs.Known.{Known}
use Rattle.mip_rules_agent.specs.Calls.{Call}
use Rattle.mip_rules_agent.specs.Steps.{Step, Called, is_call}
use Rattle.mip_rules_agent.specs.Questions.{last_after, after}
use Rattle.mip_rules_agent.specs.Transitions.{Transition, begun, noted}
use Rattle.mip_rules_agent.specs.Doing.{does, transition_of}
use Rattle.mip_rules_agent.proofs.Walks.{every-handles}

last-noted : (step : Step) (t : Transition) → (noted step t).known.last ≡ last_after t.known.last t.now step
unfolding after
last-noted step t = ap (λ (k : Known). k.last) (noted-known after step t)

-- the transition is at this moment, and so is the last that is known
abbrev IsAt : ℕ → Transition → Type 0
IsAt now t = (t.now ≡ now) × (t.known.last ≡ now)

at-noted : (now : ℕ) (step : Step) (t : Transition) → is_call step ≡ false → IsAt now t → IsAt now (noted step t)
at-noted now step t silent is = (
  noted-now after step t ∙ is.0,
  last-noted step t ∙ ap (λ (b : Bool). if b then t.now else t.known.last) silent ∙ is.1,
)

pub call-last : (me : Identity) (k : Known) (now : ℕ) (c : Call) → (transition_of me k now c).known.last ≡ now
unfolding does
call-last me k now c =
    let first = noted (Called c) (begun now k) in
    let is = every-handles me (IsAt now) c (λ step t silent own is. at-noted now step t silent is) first
    (noted-now after (Called c) (begun now k), last-noted (Called c) (begun now k)) in is.1
