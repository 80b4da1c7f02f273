use Rattle.mip_history.proofs.Repeats.{permitted_repeats}
use Rattle.mip_history.proofs.laws.repeats_come_after_rounds.Goals as goal

pub returns : goal.returns
returns c = permitted_repeats
