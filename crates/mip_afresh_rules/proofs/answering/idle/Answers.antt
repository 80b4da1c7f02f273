use Rattle.mip_rules_correspondent.specs.Steps.{Idles}
use Rattle.mip_afresh_rules.proofs.ShowingLaws.{shown}
use Rattle.mip_afresh_rules.proofs.answering.idle.Goals as goal

pub returns : goal.returns
returns c = λ now t shows. shown (Idles) now c.args.answers.now c.push.new.self c.in_ok-push.ensures.ok t shows
