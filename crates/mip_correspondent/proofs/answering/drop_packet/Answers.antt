use Rattle.std.proofs.Common.{[], ◌∷◌, ◌++◌, refl, ap, ◌∙◌}
use Rattle.mip_entries.specs.declared.answer.Answer.{Answer}
use Rattle.mip_rules_correspondent.specs.Steps.{Drops}
use Rattle.mip_correspondent.proofs.ShowingLaws.{shown}
use Rattle.mip_correspondent.proofs.answering.drop_packet.Goals as goal

pub returns : goal.returns
returns c =
    let told = c.in_ok-push.ensures.ok ∙ ap (λ (a : Answer). c.args.answers.now ++ a ∷ []) c.dropped.ensures in
    λ now cache t shows. shown (Drops c.args.number c.args.why) now cache c.args.answers.now c.push.new.self t refl told shows
