use Rattle.mip_past.proofs.AtPlaces.{agents_as_asked}
use Rattle.mip_past.proofs.laws.agents_are_as_asked.Goals as goal

pub returns : goal.returns
returns c = agents_as_asked
