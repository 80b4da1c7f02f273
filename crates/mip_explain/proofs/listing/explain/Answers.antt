use Rattle.mip_explain.proofs.Packets.{is_refused}
use Rattle.mip_explain.proofs.listing.explain.Goals as goal

pub returns-clause-refused : goal.returns-clause-refused
returns-clause-refused c = is_refused c.listed.result c.args.packet.now c.listed.ensures
