use Rattle.mip_history.specs.Permitted.{run_of}
use Rattle.mip_history.proofs.Events.{run_passes}
use Rattle.mip_history.proofs.Leftovers.{waited_idle}
use Rattle.mip_history.proofs.laws.a_wait_leaves_nothing_due.Goals as goal

pub returns : goal.returns
returns c = λ s events ms n. let is = run_passes s events in waited_idle s (run_of s events) ms n is.run
