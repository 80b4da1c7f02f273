use Rattle.std.proofs.Common.{refl}
use Rattle.mip_rules_mobile.specs.Steps.{Rings}
use Rattle.mip_rules_mobile.specs.Questions.{after}
use Rattle.mip_afresh_mobile_state.proofs.TurnLaws.{silent}
use Rattle.mip_afresh_mobile_state.proofs.turn.Turn.ring.Goals as goal

pub returns : goal.returns
unfolding after
returns c = λ t shows. silent (Rings c.args.work) c.args.self.now c.ring.new.self refl (λ k. refl) c.in_ok-ring.ensures t shows
