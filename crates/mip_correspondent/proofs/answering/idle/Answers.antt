use Rattle.std.proofs.Common.{refl}
use Rattle.mip_rules_correspondent.specs.Steps.{Idles}
use Rattle.mip_correspondent.proofs.ShowingLaws.{shown}
use Rattle.mip_correspondent.proofs.answering.idle.Goals as goal

pub returns : goal.returns
returns c = λ now cache t shows. shown (Idles) now cache c.args.answers.now c.push.new.self t refl c.in_ok-push.ensures.ok shows
