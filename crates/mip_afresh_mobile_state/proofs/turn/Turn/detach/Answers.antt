use Rattle.std.proofs.Common.{refl}
use Rattle.mip_rules_mobile.specs.Steps.{Detaches}
use Rattle.mip_rules_mobile.specs.Questions.{after}
use Rattle.mip_afresh_mobile_state.proofs.TurnLaws.{silent}
use Rattle.mip_afresh_mobile_state.proofs.turn.Turn.detach.Goals as goal

pub returns : goal.returns
unfolding after
returns c = λ t shows. silent Detaches c.args.self.now c.detach.new.self refl (λ k. refl) c.in_ok-detach.ensures t shows
