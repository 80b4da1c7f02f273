use Rattle.std.proofs.Common.{refl}
use Rattle.mip_tokens.specs.Token.{kbm_both_of, kbm_home_of}
use Rattle.mip_law_security.proofs.laws.keys_have_their_octets.Goals as goal

pub returns : goal.returns
unfolding kbm_both_of kbm_home_of
returns c = record { both = λ home careof. refl; home = λ home. refl }
