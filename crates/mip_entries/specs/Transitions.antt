-- A transition of a role: one call, with what is known as it goes on and what was done in it so far.
use Rattle.std.specs.Prelude.{◌≡◌, ◌++◌, ℕ, List, [], ◌∷◌, fold, Bool, if◌then◌else◌}
use Rattle.mip_words.specs.declared.moment.Moment.{Moment}
use Rattle.mip_entries.specs.Stamped.{Stamped, stamped}

pub record Transition (K S : Type 0) : Type 0 where
  pub now : ℕ
  pub known : K
  pub steps : List S

-- a call begins
abbrev pub begun : {K S : Type 0} → ℕ → K → Transition K S
begun now k = record { now = now; known = k; steps = [] }

-- the one thing that a rule does: a step is taken, and what is known goes on
unfoldable pub noted_by : {K S : Type 0} → (K → Stamped S → K) → S → Transition K S → Transition K S
noted_by after step t = record { now = t.now; known = after t.known (record { at = t.now; step = step }); steps = t.steps ++ step ∷ [] }

-- the moment of the last call that a role was given: that of a step which is a call, and else as it was
abbrev pub last_after : Bool → Moment → ℕ → Moment
last_after is_call last at = if is_call then record { 0 = at } else last

-- what a past leaves known to whoever began with this
abbrev pub known_by : {K S : Type 0} → (K → Stamped S → K) → K → List (Stamped S) → K
known_by after fresh past = fold after fresh past

-- what a role keeps is what its past leaves known
unfoldable pub StandsBy : {K S : Type 0} → (K → Stamped S → K) → K → List (Stamped S) → K → Type 0
StandsBy after fresh past k = k ≡ known_by after fresh past

-- the past with a transition behind it
abbrev pub with_transition : {K S : Type 0} → List (Stamped S) → Transition K S → List (Stamped S)
with_transition past t = past ++ stamped t.now t.steps
