use Rattle.mip_homeagent.proofs.ShowingLaws.{sent}
use Rattle.mip_homeagent.proofs.answering.send.Goals as goal

pub returns : goal.returns
returns c = sent c.args.shield c.args.packet c.args.answers.now c.push.new.self c.in_ok-push.ensures.ok
