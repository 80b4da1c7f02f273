use Rattle.std.proofs.Common.{refl, ap, ◌∙◌, ◌++◌}
use Rattle.std.specs.Prelude.{List}
use Rattle.mip_entries.specs.declared.answer.Answer.{Answer}
use Rattle.mip_rules_correspondent.specs.Steps.{Accepts}
use Rattle.mip_correspondent.proofs.ShowingLaws.{shown}
use Rattle.mip_correspondent.proofs.answering.note_acceptance.Goals as goal

pub returns : goal.returns
returns c = λ now cache t shows.
    shown (Accepts c.args.number c.args.kept.now.home c.args.kept.now.number c.args.kept.now.accepted) now cache c.args.answers.now c.push.new.self t refl
    (c.in_ok-push.ensures.ok ∙ ap (λ (l : List Answer). c.args.answers.now ++ l) c.accepted_entry.ensures) shows
