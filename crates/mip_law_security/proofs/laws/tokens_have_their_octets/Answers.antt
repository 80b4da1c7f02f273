use Rattle.mip_law_security.proofs.Octets.{home_token_is, careof_token_is}
use Rattle.mip_law_security.proofs.laws.tokens_have_their_octets.Goals as goal

pub returns : goal.returns
returns c = record { home = λ kcn nonce home short. home_token_is kcn nonce home short; careof = λ kcn nonce careof short. careof_token_is kcn nonce careof short }
