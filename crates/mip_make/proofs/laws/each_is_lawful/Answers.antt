use Rattle.mip_make.proofs.MadeLaws.{made_lawful}
use Rattle.mip_make.proofs.laws.each_is_lawful.Goals as goal

pub returns : goal.returns
returns c = made_lawful
