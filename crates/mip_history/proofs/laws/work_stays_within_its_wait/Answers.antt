use Rattle.std.specs.Prelude.{false}
use Rattle.mip_history.specs.Permitted.{run_of}
use Rattle.mip_history.proofs.Events.{run_passes}
use Rattle.mip_history.proofs.Waiting.{works_until_within}
use Rattle.mip_history.proofs.laws.work_stays_within_its_wait.Goals as goal

pub returns : goal.returns
returns c = λ s events target rounds early.
    let is = run_passes s events in
    let within = works_until_within s target rounds (record { run = run_of s events; told = false }) is.run early in
    within.early
