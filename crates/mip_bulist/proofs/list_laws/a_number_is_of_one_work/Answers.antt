use Rattle.mip_bulist.proofs.WorkLaws.{one_work}
use Rattle.mip_bulist.proofs.list_laws.a_number_is_of_one_work.Goals as goal

pub returns : goal.returns
returns c = λ a b e. one_work a b e
