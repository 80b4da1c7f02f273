-- The updates that were accepted in a past: what the binding cache stands for.
use Rattle.std.specs.Prelude.{ℕ, List, [], ◌∷◌}
use Rattle.std.specs.List.{flat_map}
use Rattle.mip_bcache.specs.Acceptance.{Acceptance}
use Rattle.mip_bcache.specs.Seen.{acceptance}
use Rattle.mip_entries.specs.Stamped.{Stamped}
use Rattle.mip_rules_correspondent.specs.Steps.{Step, Accepts}

abbrev pub acceptance_in : ℕ → Step → List Acceptance
acceptance_in at (Accepts number home binding accepted) = acceptance at home binding accepted ∷ []
acceptance_in at _ = []

-- the acceptances of a past, oldest first
unfoldable pub accepted_in : List (Stamped Step) → List Acceptance
accepted_in past = flat_map (λ s. acceptance_in s.at s.step) past
