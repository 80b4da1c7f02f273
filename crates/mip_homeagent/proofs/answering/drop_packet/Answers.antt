use Rattle.std.proofs.Common.{[], ◌∷◌, ◌++◌, ap, ◌∙◌}
use Rattle.mip_entries.specs.declared.answer.Answer.{Answer}
use Rattle.mip_homeagent.proofs.ShowingLaws.{dropped as left}
use Rattle.mip_homeagent.proofs.answering.drop_packet.Goals as goal

pub returns : goal.returns
returns c =
    left c.args.number c.args.why c.args.answers.now c.push.new.self
    (c.in_ok-push.ensures.ok ∙ ap (λ (a : Answer). c.args.answers.now ++ a ∷ []) c.dropped.ensures)
