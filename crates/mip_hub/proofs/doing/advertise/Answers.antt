use Rattle.std.proofs.Common.{refl}
use Rattle.mip_hub.proofs.CallLaws.{stays}
use Rattle.mip_hub.proofs.doing.advertise.Goals as goal

pub returns-in-Err-clause-goes : goal.returns-in-Err-clause-goes
returns-in-Err-clause-goes g c = stays _ _ _ refl
