use Rattle.mip_past.proofs.AtPlaces.{is_front, permitted_front}
use Rattle.mip_past.proofs.laws.places_are_fronts.Goals as goal

pub returns : goal.returns
returns c = record { run = is_front; permitted = permitted_front }
