use Rattle.mip_rules_mobile.proofs.Fits.{call-fits}
use Rattle.mip_rules_mobile.proofs.laws.each_step_fits.Goals as goal

pub returns : goal.returns
returns c = λ k now call. call-fits k now call
