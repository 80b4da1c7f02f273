use Rattle.mip_bulist.proofs.RunLaws.{right}
use Rattle.mip_bulist.proofs.run_laws.each_update_of_a_trial_is_right.Goals as goal

pub returns : goal.returns
returns c = λ peer past call. right peer past call
