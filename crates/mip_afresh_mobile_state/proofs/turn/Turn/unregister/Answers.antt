use Rattle.std.proofs.Common.{refl}
use Rattle.mip_rules_mobile.specs.Steps.{Unregisters}
use Rattle.mip_rules_mobile.specs.Questions.{after}
use Rattle.mip_afresh_mobile_state.proofs.TurnLaws.{left}
use Rattle.mip_afresh_mobile_state.proofs.turn.Turn.unregister.Goals as goal

pub returns : goal.returns
unfolding after
returns c = λ t shows. left (Unregisters c.args.agent) c.args.self.now c.unregister.new.self c.leave.new.self (λ k. refl) c.unregister.ensures c.in_ok-leave.ensures t shows
