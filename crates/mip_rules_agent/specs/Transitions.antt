-- The transitions of a home agent.
use Rattle.std.specs.Prelude.{List}
use Rattle.mip_words.specs.declared.address.Address.{Address}
use Rattle.mip_entries.specs.Stamped.{Stamped}
use Rattle.mip_entries.specs.Transitions as transitions
pub use Rattle.mip_entries.specs.Transitions.{begun, with_transition}
use Rattle.mip_rules_agent.specs.Known.{Known}
use Rattle.mip_rules_agent.specs.Steps.{Step}
use Rattle.mip_rules_agent.specs.Questions.{after, fresh}

abbrev pub Transition : Type 0
Transition = transitions.Transition Known Step

-- the one thing that a rule does: a step is taken, and what is known goes on
abbrev pub noted : Step → Transition → Transition
noted step t = transitions.noted_by after step t

-- what an agent that serves these homes keeps is what its past leaves known
abbrev pub Stands : List Address → List (Stamped Step) → Known → Type 0
Stands serves past k = transitions.StandsBy after (fresh serves) past k
