use Rattle.mip_afresh_marks.proofs.Walks.{unheard}
use Rattle.mip_afresh_marks.proofs.users.Hearers.new.Goals as goal

pub returns : goal.returns
returns c = λ o. unheard 256 o
