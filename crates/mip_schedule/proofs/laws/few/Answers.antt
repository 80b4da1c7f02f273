use Rattle.mip_schedule.proofs.StandingLaws.{few_declared}
use Rattle.mip_schedule.proofs.laws.few.Goals as goal

pub returns : goal.returns
returns c = few_declared c.args.schedule.now
