use Rattle.mip_rules_correspondent.specs.Steps.{Denies}
use Rattle.mip_afresh_rules.proofs.ShowingLaws.{shown}
use Rattle.mip_afresh_rules.proofs.answering.note_denial.Goals as goal

pub returns : goal.returns
returns c = λ now t shows. shown (Denies c.args.number c.args.status) now c.args.answers.now c.push.new.self c.in_ok-push.ensures.ok t shows
