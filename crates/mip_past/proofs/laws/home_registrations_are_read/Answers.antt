use Rattle.mip_past.proofs.Sending.{read_as_sent}
use Rattle.mip_past.proofs.laws.home_registrations_are_read.Goals as goal

pub returns : goal.returns
returns c = read_as_sent
