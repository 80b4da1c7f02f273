use Rattle.std.proofs.Common.{refl}
use Rattle.mip_rules_correspondent.specs.Steps.{Sends}
use Rattle.mip_correspondent.proofs.ShowingLaws.{shown}
use Rattle.mip_correspondent.proofs.answering.send.Goals as goal

pub returns : goal.returns
returns c = λ now cache t shows. shown (Sends c.args.packet) now cache c.args.answers.now c.push.new.self t refl c.in_ok-push.ensures.ok shows
