use Rattle.std.proofs.Common.{refl}
use Rattle.mip_rules_mobile.specs.Steps.{Unbinds}
use Rattle.mip_rules_mobile.specs.Questions.{after}
use Rattle.mip_afresh_mobile_state.proofs.TurnLaws.{left}
use Rattle.mip_afresh_mobile_state.proofs.turn.Turn.unbind.Goals as goal

pub returns : goal.returns
unfolding after
returns c = λ t shows. left (Unbinds c.args.row c.args.peer) c.args.self.now c.unbind.new.self c.leave.new.self (λ k. refl) c.in_ok-unbind.ensures c.in_ok-leave.ensures t shows
