-- The key of two tokens is that of their bytes.
use Rattle.std.proofs.Common.{◌≡◌, refl}
use Rattle.std.specs.Prelude.{Option, Some, None, option_map}
use Rattle.mip_words.specs.declared.token.Token.{Token}
use Rattle.mip_tokens.specs.Token.{kbm_of_tokens as kbm_by}
use Rattle.mip_provenance.specs.Keys.{kbm_of_tokens}

pub same_kbm : (home : Token) (careof : Option Token) → kbm_by home careof ≡ kbm_of_tokens home.0 (option_map (λ (t : Token). t.0) careof)
same_kbm home None = refl
same_kbm home (Some careof) = refl
