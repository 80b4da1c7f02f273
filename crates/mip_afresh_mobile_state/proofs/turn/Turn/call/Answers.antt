use Rattle.std.proofs.Common.{refl}
use Rattle.mip_rules_mobile.specs.Steps.{Called}
use Rattle.mip_rules_mobile.specs.Questions.{after}
use Rattle.mip_afresh_mobile_state.proofs.TurnLaws.{silent}
use Rattle.mip_afresh_mobile_state.proofs.turn.Turn.call.Goals as goal

pub returns : goal.returns
unfolding after
returns c = λ call t shows. silent (Called call) c.args.self.now c.args.self.now.mobile refl (λ k. refl) refl t shows
