use Rattle.mip_rules_correspondent.specs.Steps.{Drops}
use Rattle.mip_afresh_rules.proofs.ShowingLaws.{shown}
use Rattle.mip_afresh_rules.proofs.answering.drop_packet.Goals as goal

pub returns : goal.returns
returns c = λ now t shows. shown (Drops c.args.number c.args.why) now c.args.answers.now c.push.new.self c.in_ok-push.ensures.ok t shows
