use Rattle.mip_bulist.proofs.TimerLaws.{none_due}
use Rattle.mip_bulist.proofs.list_laws.none_is_due_before_the_first.Goals as goal

pub returns : goal.returns
returns c = λ now timers order e. none_due now timers order e
