use Rattle.mip_rules_correspondent.specs.Steps.{Sends}
use Rattle.mip_afresh_rules.proofs.ShowingLaws.{shown}
use Rattle.mip_afresh_rules.proofs.answering.send_packet.Goals as goal

pub returns : goal.returns
returns c = λ now t shows. shown (Sends c.args.packet) now c.args.answers.now c.push.new.self c.in_ok-push.ensures.ok t shows
