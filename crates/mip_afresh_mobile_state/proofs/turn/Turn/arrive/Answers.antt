use Rattle.std.proofs.Common.{refl}
use Rattle.mip_rules_mobile.specs.Steps.{Arrives}
use Rattle.mip_rules_mobile.specs.Questions.{after}
use Rattle.mip_afresh_mobile_state.proofs.TurnLaws.{left}
use Rattle.mip_afresh_mobile_state.proofs.turn.Turn.arrive.Goals as goal

pub returns : goal.returns
unfolding after
returns c = λ t shows. left (Arrives c.args.address) c.args.self.now c.arrive.new.self c.leave.new.self (λ k. refl) c.arrive.ensures c.in_ok-leave.ensures t shows
