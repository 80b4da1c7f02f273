use Rattle.std.proofs.Common.{refl}
use Rattle.mip_rules_mobile.specs.Steps.{Forgets}
use Rattle.mip_rules_mobile.specs.Questions.{after}
use Rattle.mip_afresh_mobile_state.proofs.TurnLaws.{silent}
use Rattle.mip_afresh_mobile_state.proofs.turn.Turn.forget.Goals as goal

pub returns : goal.returns
unfolding after
returns c = λ t shows. silent (Forgets c.args.row) c.args.self.now c.forget.new.self refl (λ k. refl) c.forget.ensures t shows
