use Rattle.mip_hub.proofs.CallLaws.{sends}
use Rattle.mip_hub.proofs.sending.send.Goals as goal

pub returns-clause-goes : goal.returns-clause-goes
returns-clause-goes g c = sends c.args.port c.args.datagram.now c.send.result _ _ _ _ c.send.ensures.ok c.send.ensures.err c.send.ensures.calls
