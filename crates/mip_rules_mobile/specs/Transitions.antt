-- The transitions of a mobile.
use Rattle.std.specs.Prelude.{ℕ, List, Option}
use Rattle.mip_words.specs.declared.address.Address.{Address}
use Rattle.mip_nonce.specs.Secrets.{Life}
use Rattle.mip_entries.specs.Stamped.{Stamped}
use Rattle.mip_entries.specs.Transitions as transitions
pub use Rattle.mip_entries.specs.Transitions.{begun, with_transition}
use Rattle.mip_rules_mobile.specs.Steps.{Step}
use Rattle.mip_rules_mobile.specs.Known.{Known}
use Rattle.mip_rules_mobile.specs.Questions.{after, fresh}

abbrev pub Transition : Type 0
Transition = transitions.Transition Known Step

-- the one thing that a rule does: a step is taken, and what is known goes on
abbrev pub noted : Step → Transition → Transition
noted step t = transitions.noted_by after step t

-- what a mobile keeps is what its past leaves known
abbrev pub Stands : Address → Option Address → (numbers : ℕ) → Life → List (Stamped Step) → Known → Type 0
Stands home declared numbers secrets past k = transitions.StandsBy after (fresh home declared numbers secrets) past k
