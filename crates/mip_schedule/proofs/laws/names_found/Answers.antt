use Rattle.mip_schedule.proofs.StandingLaws.{names_declared}
use Rattle.mip_schedule.proofs.laws.names_found.Goals as goal

pub returns : goal.returns
returns c = names_declared c.args.schedule.now
