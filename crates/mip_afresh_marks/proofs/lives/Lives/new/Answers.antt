use Rattle.mip_afresh_marks.proofs.Walks.{unknown}
use Rattle.mip_afresh_marks.proofs.lives.Lives.new.Goals as goal

pub returns : goal.returns
returns c = λ n. unknown 256 n
