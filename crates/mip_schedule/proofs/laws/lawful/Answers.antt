use Rattle.mip_schedule.proofs.LawfulLaws.{lawful_schedule}
use Rattle.mip_schedule.proofs.laws.lawful.Goals as goal

pub returns : goal.returns
returns c = lawful_schedule c.args.schedule.now
