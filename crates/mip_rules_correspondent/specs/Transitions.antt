-- The transitions of a correspondent.
use Rattle.std.specs.Prelude.{ℕ, List}
use Rattle.mip_entries.specs.Stamped.{Stamped}
use Rattle.mip_entries.specs.Transitions as transitions
pub use Rattle.mip_entries.specs.Transitions.{begun, with_transition}
use Rattle.mip_rules_correspondent.specs.declared.known.Known.{Known}
use Rattle.mip_rules_correspondent.specs.Steps.{Step}
use Rattle.mip_rules_correspondent.specs.Questions.{after, fresh}

abbrev pub Transition : Type 0
Transition = transitions.Transition Known Step

-- the one thing that a rule does: a step is taken, and what is known goes on
abbrev pub noted : Step → Transition → Transition
noted step t = transitions.noted_by after step t

-- what a correspondent keeps is what its past leaves known
abbrev pub Stands : (room numbers : ℕ) → List (Stamped Step) → Known → Type 0
Stands room numbers past k = transitions.StandsBy after (fresh room numbers) past k
