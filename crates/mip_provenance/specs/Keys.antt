-- The key of an update by its tokens. RFC 6275 section 5.2.5
use Rattle.std.specs.Prelude.{ℕ, List, Option, Some, None}
use Rattle.mip_tokens.specs.Token.{kbm_both_of, kbm_home_of}

-- of the home token alone where the binding ends, else of both tokens
abbrev pub kbm_of_tokens : List ℕ → Option (List ℕ) → List ℕ
kbm_of_tokens home None = kbm_home_of home
kbm_of_tokens home (Some careof) = kbm_both_of home careof
