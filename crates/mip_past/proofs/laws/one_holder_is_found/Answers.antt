use Rattle.mip_past.proofs.AtPlaces.{holder_found}
use Rattle.mip_past.proofs.laws.one_holder_is_found.Goals as goal

pub returns : goal.returns
returns c = holder_found
