-- Whom a keygen token has reached: whoever was handed a Home Test or a Care-of Test with it, or heard one.
-- RFC 6275 sections 5.2.5 and 6.1.5
use Rattle.std.specs.Prelude.{ℕ, List, Bool, false, ◌&&◌, ◌==◌, if◌then◌else◌, Option, Some, None}
use Rattle.std.specs.List.{filter_map}
use Rattle.std.specs.Str.{bytes_eq}
use Rattle.mip_provenance.specs.Sights.{Sight}
use Rattle.mip_provenance.specs.Sights.Sight.{Heard}

abbrev pub is_token : List ℕ → Option (List ℕ) → Bool
is_token token None = false
is_token token (Some t) = bytes_eq t token

-- an outsider hears the token
abbrev pub is_heard : ℕ → List ℕ → Sight → Bool
is_heard outsider token (Heard o t) = o == outsider && is_token token t
is_heard outsider token _ = false

abbrev pub value_heard : ℕ → Sight → Option (List ℕ)
value_heard outsider (Heard o t) = if o == outsider then t else None
value_heard outsider _ = None

-- the tokens that an outsider heard, in the order in which they came
abbrev pub values : ℕ → List Sight → List (List ℕ)
values outsider seen = filter_map (value_heard outsider) seen
