use Rattle.mip_past.proofs.AtPlaces.{mobiles_as_asked}
use Rattle.mip_past.proofs.laws.mobiles_are_as_asked.Goals as goal

pub returns : goal.returns
returns c = mobiles_as_asked
