use Rattle.mip_past.proofs.AtPlaces.{through_as_asked}
use Rattle.mip_past.proofs.laws.agents_of_mobiles_are_as_asked.Goals as goal

pub returns : goal.returns
returns c = through_as_asked
