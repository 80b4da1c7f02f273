use Rattle.mip_past.proofs.AtPlaces.{held_bound, registered_at}
use Rattle.mip_past.proofs.laws.answers_have_their_update.Goals as goal

pub returns : goal.returns
returns c = record { held = held_bound; registered = registered_at }
