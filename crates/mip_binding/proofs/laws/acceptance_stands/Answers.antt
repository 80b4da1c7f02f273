use Rattle.mip_binding.proofs.HeldLaws.{held-binds, held-deletes, holds-ends, floor-stands}
use Rattle.mip_binding.proofs.laws.acceptance_stands.Goals as goal

pub returns : goal.returns
returns c = record { binds = held-binds; deletes = held-deletes; ends = holds-ends; floor = floor-stands }
