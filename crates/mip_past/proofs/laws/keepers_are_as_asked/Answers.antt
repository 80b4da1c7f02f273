use Rattle.mip_past.proofs.AtPlaces.{keepers_as_asked}
use Rattle.mip_past.proofs.laws.keepers_are_as_asked.Goals as goal

pub returns : goal.returns
returns c = keepers_as_asked
