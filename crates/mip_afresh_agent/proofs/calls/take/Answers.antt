use Rattle.mip_afresh_agent.proofs.CallLaws.{take_here}
use Rattle.mip_afresh_agent.proofs.calls.take.Goals as goal

pub returns : goal.returns
returns c =
    let h = c.args.handed.now in
    let before = c.call.ensures.take h.number h.shield h.bytes.now h.claim _ c.in_ok-turn.ensures in
    take_here h c.args.known.now c.args.now.0 c.call.new.self c.receive.new.turn before (c.in_ok-receive.ensures _ before)
