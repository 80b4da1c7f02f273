use Rattle.std.proofs.Common.{refl}
use Rattle.mip_rules_mobile.specs.Steps.{Meets}
use Rattle.mip_rules_mobile.specs.Questions.{after}
use Rattle.mip_afresh_mobile_state.proofs.TurnLaws.{silent}
use Rattle.mip_afresh_mobile_state.proofs.turn.Turn.meet.Goals as goal

pub returns : goal.returns
unfolding after
returns c = λ t shows. silent (Meets c.args.peer) c.args.self.now c.meet.new.self refl (λ k. refl) c.in_ok-meet.ensures t shows
