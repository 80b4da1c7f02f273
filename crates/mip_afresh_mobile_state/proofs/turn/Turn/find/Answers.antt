use Rattle.std.proofs.Common.{refl}
use Rattle.mip_rules_mobile.specs.Steps.{Finds}
use Rattle.mip_rules_mobile.specs.Questions.{after}
use Rattle.mip_afresh_mobile_state.proofs.TurnLaws.{silent}
use Rattle.mip_afresh_mobile_state.proofs.turn.Turn.find.Goals as goal

pub returns : goal.returns
unfolding after
returns c = λ t shows. silent (Finds c.args.agents.items) c.args.self.now c.find.new.self refl (λ k. refl) c.find.ensures t shows
