-- The last moment that a call leaves known is its own.
use Rattle.std.proofs.Common.{◌≡◌, ℕ, false, refl, ap, ◌∙◌}
use Rattle.std.specs.Prelude.{if◌then◌else◌, Bool}
use Rattle.mip_words.specs.declared.moment.Moment.{Moment}
use Rattle.mip_entries.specs.Transitions.{last_after}
use Rattle.mip_entries.proofs.TransitionLaws.{noted-now, noted-known}
use Rattle.mip_rules_correspondent.specs.declared.identity.Identity.{Identity}
use Rattle.mip_rules_correspondent.specs.declared.known.Known.{Known}
use Rattle.mip_rules_correspondent.specs.Calls.{Call}
use Rattle.mip_rules_correspondent.specs.Steps.{Step, Called, is_call}
use Rattle.mip_rules_correspondent.specs.Questions.{after}
use Rattle.mip_rules_correspondent.specs.Transitions.{Transition, begun, noted}
use Rattle.mip_rules_correspondent.specs.Doing.{does, transition_of}
use Rattle.mip_rules_correspondent.proofs.Walks.{every-handles}

last-noted : (step : Step) (t : Transition) → (noted step t).known.last ≡ last_after (is_call step) t.known.last t.now
unfolding after
last-noted step t = ap (λ (k : Known). k.last) (noted-known after step t)

-- the transition is at this moment, and so is the last that is known
abbrev IsAt : ℕ → Transition → Type 0
IsAt now t = (t.now ≡ now) × (t.known.last.0 ≡ now)

at-noted : (now : ℕ) (step : Step) (t : Transition) → is_call step ≡ false → IsAt now t → IsAt now (noted step t)
at-noted now step t silent is = (
  noted-now after step t ∙ is.0,
  ap (λ (m : Moment). m.0) (last-noted step t ∙ ap (λ (b : Bool). if b then record { 0 = t.now } else t.known.last) silent) ∙ is.1,
)

-- a call's transition is at this moment, and leaves it known
call-at : (me : Identity) (k : Known) (now : ℕ) (c : Call) → IsAt now (transition_of me k now c)
unfolding does
call-at me k now c =
    let first = noted (Called c) (begun now k) in
    every-handles me c (IsAt now) (λ step t silent own is. at-noted now step t silent is) c refl first
    (noted-now after (Called c) (begun now k), ap (λ (m : Moment). m.0) (last-noted (Called c) (begun now k)))

pub call-now : (me : Identity) (k : Known) (now : ℕ) (c : Call) → (transition_of me k now c).now ≡ now
call-now me k now c = let is = call-at me k now c in is.0

pub call-last : (me : Identity) (k : Known) (now : ℕ) (c : Call) → (transition_of me k now c).known.last.0 ≡ now
call-last me k now c = let is = call-at me k now c in is.1
