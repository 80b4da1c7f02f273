use Rattle.mip_binding.proofs.HeldLaws.{homes-listed, homes-rise}
use Rattle.mip_binding.proofs.laws.homes_counted.Goals as goal

pub returns : goal.returns
returns c = record { listed = homes-listed; once = homes-rise }
