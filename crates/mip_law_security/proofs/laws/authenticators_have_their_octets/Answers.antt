use Rattle.mip_law_security.proofs.Octets.{authenticator_is}
use Rattle.mip_law_security.proofs.laws.authenticators_have_their_octets.Goals as goal

pub returns : goal.returns
returns c = λ kbm careof peer message m short. authenticator_is kbm careof peer message m short
