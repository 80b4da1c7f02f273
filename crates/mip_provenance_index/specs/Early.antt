-- The tokens that an outsider used before they came to it.
use Rattle.std.specs.Prelude.{ℕ, List, Bool, ◌&&◌, if◌then◌else◌, Option, Some, None}
use Rattle.std.specs.Ordering.{nat_cmp}
use Rattle.std.specs.BTreeSet.{contains}
use Rattle.mip_provenance.specs.Sights.{Sight, token_in}
use Rattle.mip_provenance.specs.Sights.Sight.{Injected}
use Rattle.mip_provenance_index.specs.declared.early.Early.{Early}
use Rattle.mip_provenance_index.specs.Tokens.{token_number, is_spelled}

abbrev pub is_used : Early → List ℕ → Bool
is_used e token = is_spelled token && contains nat_cmp e.tokens (token_number token)

abbrev pub new_known : (ℕ → List ℕ → Bool) → ℕ → Option (List ℕ) → Option (List ℕ)
new_known come outsider None = None
new_known come outsider (Some token) = if come outsider token then None else Some token

-- the token of a test that a sight injects, where it had not come to the outsider, by what has come
abbrev pub early_known : (ℕ → List ℕ → Bool) → Sight → Option (List ℕ)
early_known come (Injected number outsider carried) = new_known come outsider (token_in carried)
early_known come _ = None
