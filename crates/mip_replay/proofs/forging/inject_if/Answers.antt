use Rattle.std.proofs.Common.{refl}
use Rattle.mip_engine.proofs.GoesLaws.{goes_idle}
use Rattle.mip_replay.proofs.forging.inject_if.Goals as goal

pub returns-in-None : goal.returns-in-None
returns-in-None c = rw c.in-None.is (goes_idle c.note.ensures (λ s run at. refl))
