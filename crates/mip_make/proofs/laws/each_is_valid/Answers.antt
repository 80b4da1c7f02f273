use Rattle.mip_make.proofs.MadeLaws.{made_read}
use Rattle.mip_make.proofs.laws.each_is_valid.Goals as goal

pub returns : goal.returns
returns c = made_read
