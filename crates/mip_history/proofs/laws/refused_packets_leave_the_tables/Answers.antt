use Rattle.mip_history.proofs.Refused.{leaves_tables}
use Rattle.mip_history.proofs.laws.refused_packets_leave_the_tables.Goals as goal

pub returns : goal.returns
returns c = leaves_tables
