use Rattle.mip_binding.proofs.HeldLaws.{held_was_accepted, under_was_accepted, floor_was_accepted, held_has_floor}
use Rattle.mip_binding.proofs.laws.kept_was_accepted.Goals as goal

pub returns : goal.returns
returns c = record { held = held_was_accepted; under = under_was_accepted; floor = floor_was_accepted; both = held_has_floor }
