use Rattle.mip_rules_mobile.proofs.Wholes.{call-whole}
use Rattle.mip_rules_mobile.proofs.laws.answers_are_whole.Goals as goal

pub returns : goal.returns
returns c = λ k now call can. call-whole k now call can
