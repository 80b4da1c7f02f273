use Rattle.std.proofs.Common.{ap, ◌∙◌, ◌++◌}
use Rattle.std.specs.Prelude.{List}
use Rattle.mip_entries.specs.declared.answer.Answer.{Answer}
use Rattle.mip_rules_correspondent.specs.Steps.{Accepts}
use Rattle.mip_afresh_rules.proofs.ShowingLaws.{shown}
use Rattle.mip_afresh_rules.proofs.answering.note_acceptance.Goals as goal

pub returns : goal.returns
returns c = λ now t shows.
    shown (Accepts c.args.number c.args.home c.args.binding c.args.accepted) now c.args.answers.now c.push.new.self
    (c.in_ok-push.ensures.ok ∙ ap (λ (l : List Answer). c.args.answers.now ++ l) c.acceptance-entry.ensures) t shows
