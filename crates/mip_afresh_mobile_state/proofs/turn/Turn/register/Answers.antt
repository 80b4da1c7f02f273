use Rattle.std.proofs.Common.{refl}
use Rattle.mip_rules_mobile.specs.Steps.{Registers}
use Rattle.mip_rules_mobile.specs.Questions.{after}
use Rattle.mip_afresh_mobile_state.proofs.TurnLaws.{left}
use Rattle.mip_afresh_mobile_state.proofs.turn.Turn.register.Goals as goal

pub returns : goal.returns
unfolding after
returns c = λ t shows. left (Registers c.args.agent c.args.end c.args.renew) c.args.self.now c.register.new.self c.leave.new.self (λ k. refl) c.in_ok-register.ensures c.in_ok-leave.ensures t shows
