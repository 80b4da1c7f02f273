use Rattle.mip_history.proofs.Histories.{permitted_sent, permitted_injected, permitted_heard, permitted_handed, permitted_found}
use Rattle.mip_history.proofs.laws.packets_are_numbered.Goals as goal

pub returns : goal.returns
returns c = record { sent = permitted_sent; injected = permitted_injected; heard = permitted_heard; handed = permitted_handed; found = permitted_found }
