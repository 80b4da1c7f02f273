use Rattle.mip_binding.proofs.HeldLaws.{living-held}
use Rattle.mip_binding.proofs.laws.living_is_held.Goals as goal

pub returns : goal.returns
returns c = living-held
