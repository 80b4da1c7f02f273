use Rattle.std.proofs.Common.{refl}
use Rattle.mip_rules_mobile.specs.Steps.{Resequences}
use Rattle.mip_rules_mobile.specs.Questions.{after}
use Rattle.mip_afresh_mobile_state.proofs.TurnLaws.{silent}
use Rattle.mip_afresh_mobile_state.proofs.turn.Turn.resequence.Goals as goal

pub returns : goal.returns
unfolding after
returns c = λ t shows. silent (Resequences c.args.agent c.args.last) c.args.self.now c.number_on.new.self refl (λ k. refl) c.in_ok-number_on.ensures t shows
