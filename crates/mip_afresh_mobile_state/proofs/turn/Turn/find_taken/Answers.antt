use Rattle.std.proofs.Common.{refl}
use Rattle.mip_rules_mobile.specs.Steps.{FindsTaken}
use Rattle.mip_rules_mobile.specs.Questions.{after}
use Rattle.mip_afresh_mobile_state.proofs.TurnLaws.{left}
use Rattle.mip_afresh_mobile_state.proofs.turn.Turn.find_taken.Goals as goal

pub returns : goal.returns
unfolding after
returns c = λ t shows. left (FindsTaken c.args.address c.args.holder) c.args.self.now c.lose_address.new.self c.leave.new.self (λ k. refl) c.lose_address.ensures c.in_ok-leave.ensures t shows
