use Rattle.std.proofs.Common.{[], ◌∷◌, ◌++◌, ap, ◌∙◌}
use Rattle.mip_entries.specs.declared.answer.Answer.{Answer}
use Rattle.mip_homeagent.proofs.ShowingLaws.{denied as left}
use Rattle.mip_homeagent.proofs.answering.note_denial.Goals as goal

pub returns : goal.returns
returns c =
    left c.args.number c.args.status c.args.answers.now c.push.new.self
    (c.in_ok-push.ensures.ok ∙ ap (λ (a : Answer). c.args.answers.now ++ a ∷ []) c.denied.ensures)
