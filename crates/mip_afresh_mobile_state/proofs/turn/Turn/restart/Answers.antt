use Rattle.std.proofs.Common.{refl}
use Rattle.mip_rules_mobile.specs.Steps.{Restarts}
use Rattle.mip_rules_mobile.specs.Questions.{after}
use Rattle.mip_afresh_mobile_state.proofs.TurnLaws.{left}
use Rattle.mip_afresh_mobile_state.proofs.turn.Turn.restart.Goals as goal

pub returns : goal.returns
unfolding after
returns c = λ t shows. left (Restarts c.args.secrets) c.args.self.now c.restart.new.self c.leave.new.self (λ k. refl) c.in_ok-restart.ensures c.in_ok-leave.ensures t shows
