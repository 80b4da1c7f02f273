use Rattle.mip_past.proofs.Premises.{meets_premises}
use Rattle.mip_past.proofs.laws.schedules_meet_the_premises.Goals as goal

pub returns : goal.returns
returns c = meets_premises
