use Rattle.mip_past.proofs.AtPlaces.{listed_as_asked}
use Rattle.mip_past.proofs.laws.listed_agents_are_as_asked.Goals as goal

pub returns : goal.returns
returns c = listed_as_asked
