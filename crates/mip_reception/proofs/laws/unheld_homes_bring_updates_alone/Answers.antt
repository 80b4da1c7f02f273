use Rattle.mip_reception.proofs.Passings.{no_probe, update_alone}
use Rattle.mip_reception.proofs.laws.unheld_homes_bring_updates_alone.Goals as goal

pub returns-clause-probe : goal.returns-clause-probe
returns-clause-probe c = no_probe

pub returns-clause-update : goal.returns-clause-update
returns-clause-update c = update_alone
