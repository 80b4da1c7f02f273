-- Whoever stands for a past stands, after a call, for the past with it; and the last moment that a call leaves known is its
-- own.
use Rattle.std.proofs.Common.{◌≡◌, ℕ, List, ap, ◌∙◌}
use Rattle.std.specs.Prelude.{Option, if◌then◌else◌, Bool, true, false}
use Rattle.mip_words.specs.declared.address.Address.{Address}
use Rattle.mip_words.specs.declared.moment.Moment.{Moment}
use Rattle.mip_nonce.specs.Secrets.{Life}
use Rattle.mip_entries.specs.Stamped.{Stamped}
use Rattle.mip_entries.specs.Transitions.{StandsBy, last_after}
use Rattle.mip_entries.proofs.TransitionLaws.{noted-now, noted-known, stands-noted, stands-begun}
use Rattle.mip_rules_mobile.specs.Calls.{Call}
use Rattle.mip_rules_mobile.specs.Steps.{Step, Called, Parts, Notes, Drops, is_call}
use Rattle.mip_rules_mobile.specs.Known.{Known}
use Rattle.mip_rules_mobile.specs.Questions.{after, fresh, known}
use Rattle.mip_rules_mobile.specs.Transitions.{Transition, begun, noted, Stands, with_transition}
use Rattle.mip_rules_mobile.specs.Doing.{does, transition_of}
use Rattle.mip_rules_mobile.proofs.Walks.{every-handles, every-call}

-- whoever stands for a past knows what it leaves known
pub stands-known : (home : Address) (declared : Option Address) (numbers : ℕ) (secrets : Life) (past : List (Stamped Step)) (k : Known) → Stands home declared numbers secrets past k → k ≡ known home declared numbers secrets past
unfolding known StandsBy
stands-known home declared numbers secrets past k stands = stands

pub call-stands : (home : Address) (declared : Option Address) (numbers : ℕ) (secrets : Life) (past : List (Stamped Step)) (k : Known) (now : ℕ) (c : Call)
    → Stands home declared numbers secrets past k → Stands home declared numbers secrets (with_transition past (transition_of k now c)) (transition_of k now c).known
call-stands home declared numbers secrets past k now c stands =
    let first = fresh home declared numbers secrets in
    every-call c (λ (t : Transition). Stands home declared numbers secrets (with_transition past t) t.known)
    (λ step t steady fits s. stands-noted after first past step t s)
    (λ call t s. stands-noted after first past (Parts call) t s)
    (λ entry t own s. stands-noted after first past (Notes entry) t s)
    (λ step t ack fits led s. stands-noted after first past step t s)
    (λ step t move fits s. stands-noted after first past step t s)
    (λ number why t right s. stands-noted after first past (Drops number why) t s)
    (λ t s. stands-noted after first past (Called c) t s)
    (begun now k) (stands-begun after first past now k stands)

last-noted : (step : Step) (t : Transition) → (noted step t).known.last ≡ last_after (is_call step) t.known.last t.now
unfolding after
last-noted step t = ap (λ (k : Known). k.last) (noted-known after step t)

-- the transition is at this moment, and so is the last that is known
abbrev IsAt : ℕ → Transition → Type 0
IsAt now t = (t.now ≡ now) × (t.known.last.0 ≡ now)

at-noted : (now : ℕ) (step : Step) (t : Transition) → IsAt now t → IsAt now (noted step t)
at-noted now step t is = (noted-now after step t ∙ is.0, ap (λ (m : Moment). m.0) (last-noted step t) ∙ by (is_call step))
  where
    by : (b : Bool) → (let m : Moment = (if b then record { 0 = t.now } else t.known.last) in m.0) ≡ now
    by true = is.0
    by false = is.1

-- a call's transition is at this moment, and leaves it known
call-at : (k : Known) (now : ℕ) (c : Call) → IsAt now (transition_of k now c)
unfolding does
call-at k now c =
    let first = noted (Called c) (begun now k) in
    every-handles c (IsAt now)
    (λ step t steady fits is. at-noted now step t is)
    (λ call t is. at-noted now (Parts call) t is)
    (λ entry t own is. at-noted now (Notes entry) t is)
    (λ step t ack fits led is. at-noted now step t is)
    (λ step t move fits is. at-noted now step t is)
    (λ number why t right is. at-noted now (Drops number why) t is)
    first (noted-now after (Called c) (begun now k), ap (λ (m : Moment). m.0) (last-noted (Called c) (begun now k)))

pub call-now : (k : Known) (now : ℕ) (c : Call) → (transition_of k now c).now ≡ now
call-now k now c = let is = call-at k now c in is.0

pub call-last : (k : Known) (now : ℕ) (c : Call) → (transition_of k now c).known.last.0 ≡ now
call-last k now c = let is = call-at k now c in is.1
