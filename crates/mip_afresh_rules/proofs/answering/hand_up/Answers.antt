use Rattle.std.proofs.Common.{ap, ◌∙◌, ◌++◌}
use Rattle.std.specs.Prelude.{List, ℕ}
use Rattle.mip_rules_correspondent.specs.Steps.{HandsUp, answer_of}
use Rattle.mip_afresh_rules.proofs.ShowingLaws.{shown}
use Rattle.mip_afresh_rules.proofs.answering.hand_up.Goals as goal

pub returns : goal.returns
returns c = λ now t shows.
    let step = λ (bytes : List ℕ). HandsUp c.args.number c.args.source c.args.destination c.args.proto bytes in
    shown (step c.args.payload.now) now c.args.answers.now c.push.new.self
    (c.in_ok-push.ensures.ok ∙ ap (λ (bytes : List ℕ). c.args.answers.now ++ answer_of (step bytes)) c.in_ok-payload.ensures) t shows
