use Rattle.std.proofs.Common.{refl}
use Rattle.mip_rules_agent.specs.Steps.{Denies}
use Rattle.mip_rules_agent.specs.Questions.{after}
use Rattle.mip_afresh_agent.proofs.ShowingLaws.{shown}
use Rattle.mip_afresh_agent.proofs.turn.Turn.deny.Goals as goal

pub returns : goal.returns
unfolding after
returns c = λ t shows. shown (Denies c.args.number c.args.status) c.args.self.now _ refl refl c.in_ok-push.ensures.ok t shows
