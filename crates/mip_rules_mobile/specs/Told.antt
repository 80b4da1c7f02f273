-- What a past says of a question: what the last step says that says anything of it.
use Rattle.std.specs.Prelude.{ℕ, ◌==◌, if◌then◌else◌, List, Option, Some, None, unwrap_or, is_some, option_and_then}
use Rattle.mip_words.specs.Last.{last_where}
use Rattle.mip_entries.specs.Stamped.{Stamped}
use Rattle.mip_words.specs.declared.address.Address.{Address}
use Rattle.mip_rules_mobile.specs.Steps.{Step}
use Rattle.mip_rules_mobile.specs.HomeQuestions.{Next}

-- the last step that says anything
abbrev pub last_telling : {X : Type 0} → (Stamped Step → Option X) → List (Stamped Step) → Option (Stamped Step)
last_telling says past = last_where (λ s. is_some (says s)) past

-- what it says; d where no step says anything
abbrev pub last_told : {X : Type 0} → (Stamped Step → Option X) → X → List (Stamped Step) → X
last_told says d past = unwrap_or (option_and_then says (last_telling says past)) d

-- what is said of the next update to an agent: 1 where all is forgotten
abbrev pub next_in : Address → Option (Option Next) → Option ℕ
next_in agent None = None
next_in agent (Some None) = Some 1
next_in agent (Some (Some n)) = if n.agent.0 == agent.0 then Some n.next else None
