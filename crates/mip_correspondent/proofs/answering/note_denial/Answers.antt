use Rattle.std.proofs.Common.{[], ◌∷◌, ◌++◌, refl, ap, ◌∙◌}
use Rattle.mip_entries.specs.declared.answer.Answer.{Answer}
use Rattle.mip_rules_correspondent.specs.Steps.{Denies}
use Rattle.mip_correspondent.proofs.ShowingLaws.{shown}
use Rattle.mip_correspondent.proofs.answering.note_denial.Goals as goal

pub returns : goal.returns
returns c =
    let told = c.in_ok-push.ensures.ok ∙ ap (λ (a : Answer). c.args.answers.now ++ a ∷ []) c.denied.ensures in
    λ now cache t shows. shown (Denies c.args.number c.args.status) now cache c.args.answers.now c.push.new.self t refl told shows
