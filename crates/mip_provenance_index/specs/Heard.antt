-- The tokens that came to outsiders, each once.
use Rattle.std.specs.Prelude.{ℕ, List, [], ◌∷◌, Bool, ◌&&◌, ◌==◌, if◌then◌else◌, Option, Some, None}
use Rattle.std.specs.List.{filter_map}
use Rattle.std.specs.Ordering.{nat_cmp, ordering_then}
use Rattle.std.specs.BTreeSet.{contains}
use Rattle.std.specs.declared.cmp.Ordering.{Ordering}
use Rattle.mip_provenance_index.specs.Tokens.{token_number, is_spelled}
use Rattle.mip_provenance_index.specs.declared.arrival.Arrival.{Arrival}
use Rattle.mip_provenance_index.specs.declared.heard.Heard.{Heard}
use Rattle.mip_provenance_index.specs.declared.sight.Sight.{Sight as Seen}
use Rattle.mip_provenance_index.specs.declared.sight.Sight.TheVariants as seen

abbrev pub Coming : Type 0
Coming = ℕ × ℕ

abbrev pub coming_cmp : Coming → Coming → Ordering
coming_cmp a b = ordering_then (nat_cmp a.0 b.0) (nat_cmp a.1 b.1)

-- a token as a number, and an outsider
abbrev pub coming_of : ℕ → List ℕ → Coming
coming_of outsider token = (token_number token, outsider)

-- the token has come to the outsider
abbrev pub has_come : Heard → ℕ → List ℕ → Bool
has_come h outsider token = is_spelled token && contains coming_cmp h.known (coming_of outsider token)

abbrev pub arrival_from : ℕ → Arrival → Option (List ℕ)
arrival_from outsider a = if a.outsider == outsider then Some a.token.0 else None

-- the tokens that came to one outsider
abbrev pub heard_by : ℕ → List Arrival → List (List ℕ)
heard_by outsider arrivals = filter_map (arrival_from outsider) arrivals

-- what a sight adds to them
abbrev pub arrivals_new : (ℕ → List ℕ → Bool) → Seen → List Arrival
arrivals_new come (seen.Heard outsider (Some token)) = if come outsider token.0 then [] else record { outsider = outsider; token = token } ∷ []
arrivals_new come _ = []
