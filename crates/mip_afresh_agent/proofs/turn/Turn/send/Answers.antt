use Rattle.std.proofs.Common.{refl}
use Rattle.mip_rules_agent.specs.Steps.{Sends}
use Rattle.mip_rules_agent.specs.Questions.{after}
use Rattle.mip_afresh_agent.proofs.ShowingLaws.{shown}
use Rattle.mip_afresh_agent.proofs.turn.Turn.send.Goals as goal

pub returns : goal.returns
unfolding after
returns c = λ t shows. shown (Sends c.args.shield c.args.packet) c.args.self.now _ refl refl c.in_ok-push.ensures.ok t shows
