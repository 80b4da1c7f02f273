use Rattle.std.proofs.Common.{refl}
use Rattle.mip_rules_mobile.specs.Steps.{GivesUp}
use Rattle.mip_rules_mobile.specs.Questions.{after}
use Rattle.mip_afresh_mobile_state.proofs.TurnLaws.{silent}
use Rattle.mip_afresh_mobile_state.proofs.turn.Turn.give_up.Goals as goal

pub returns : goal.returns
unfolding after
returns c = λ t shows. silent GivesUp c.args.self.now c.give_up.new.self refl (λ k. refl) c.give_up.ensures t shows
