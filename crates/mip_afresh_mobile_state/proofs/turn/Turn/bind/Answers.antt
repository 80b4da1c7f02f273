use Rattle.std.proofs.Common.{refl}
use Rattle.mip_rules_mobile.specs.Steps.{Binds}
use Rattle.mip_rules_mobile.specs.Questions.{after}
use Rattle.mip_afresh_mobile_state.proofs.TurnLaws.{left}
use Rattle.mip_afresh_mobile_state.proofs.turn.Turn.bind.Goals as goal

pub returns : goal.returns
unfolding after
returns c = λ t shows. left (Binds c.args.row c.args.peer c.args.end c.args.renew) c.args.self.now c.bind.new.self c.leave.new.self (λ k. refl) c.in_ok-bind.ensures c.in_ok-leave.ensures t shows
