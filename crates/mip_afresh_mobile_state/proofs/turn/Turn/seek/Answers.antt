use Rattle.std.proofs.Common.{refl}
use Rattle.mip_rules_mobile.specs.Steps.{Seeks}
use Rattle.mip_rules_mobile.specs.Questions.{after}
use Rattle.mip_afresh_mobile_state.proofs.TurnLaws.{silent}
use Rattle.mip_afresh_mobile_state.proofs.turn.Turn.seek.Goals as goal

pub returns : goal.returns
unfolding after
returns c = λ t shows. silent Seeks c.args.self.now c.seek.new.self refl (λ k. refl) c.in_ok-seek.ensures t shows
