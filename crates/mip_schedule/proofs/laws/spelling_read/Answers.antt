use Rattle.mip_schedule.proofs.AcceptedLaws.{accepted}
use Rattle.mip_schedule.proofs.laws.spelling_read.Goals as goal

pub returns : goal.returns
returns c = accepted c.args.schedule.now
