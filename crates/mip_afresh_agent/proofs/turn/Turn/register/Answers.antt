use Rattle.std.proofs.Common.{refl}
use Rattle.mip_rules_agent.specs.Steps.{Registers}
use Rattle.mip_afresh_agent.proofs.ShowingLaws.{shown}
use Rattle.mip_afresh_agent.proofs.turn.Turn.register.Goals as goal

pub returns : goal.returns
returns c = λ t shows. shown (Registers c.args.number c.args.home c.args.binding) c.args.self.now _ refl c.in_ok-register.ensures c.in_ok-push.ensures.ok t shows
