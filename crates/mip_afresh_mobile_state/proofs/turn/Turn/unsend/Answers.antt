use Rattle.std.proofs.Common.{refl}
use Rattle.mip_rules_mobile.specs.Steps.{Unsends}
use Rattle.mip_rules_mobile.specs.Questions.{after}
use Rattle.mip_afresh_mobile_state.proofs.TurnLaws.{left}
use Rattle.mip_afresh_mobile_state.proofs.turn.Turn.unsend.Goals as goal

pub returns : goal.returns
unfolding after
returns c = λ t shows. left (Unsends c.args.why) c.args.self.now c.args.self.now.mobile c.leave.new.self (λ k. refl) refl c.in_ok-leave.ensures t shows
