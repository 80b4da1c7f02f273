use Rattle.mip_binding.proofs.HeldLaws.{holds_some, under_is_one, held_is_one, holds_has_floor}
use Rattle.mip_binding.proofs.laws.held_under_a_number.Goals as goal

pub returns : goal.returns
returns c = record { some = holds_some; each = under_is_one; last = held_is_one; floor = holds_has_floor }
