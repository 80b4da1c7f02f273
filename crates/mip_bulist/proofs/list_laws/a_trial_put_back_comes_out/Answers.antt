use Rattle.mip_bulist.proofs.RowLaws.{comes_out}
use Rattle.mip_bulist.proofs.list_laws.a_trial_put_back_comes_out.Goals as goal

pub returns : goal.returns
returns c = λ row trial rows. comes_out rows row trial
