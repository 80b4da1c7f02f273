use Rattle.std.proofs.Common.{refl}
use Rattle.mip_rules_mobile.specs.Steps.{Chooses}
use Rattle.mip_rules_mobile.specs.Questions.{after}
use Rattle.mip_afresh_mobile_state.proofs.TurnLaws.{left}
use Rattle.mip_afresh_mobile_state.proofs.turn.Turn.choose.Goals as goal

pub returns : goal.returns
unfolding after
returns c = λ t shows. left (Chooses c.args.agent) c.args.self.now c.choose.new.self c.leave.new.self (λ k. refl) c.in_ok-choose.ensures c.in_ok-leave.ensures t shows
