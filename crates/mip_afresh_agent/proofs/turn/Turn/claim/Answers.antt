use Rattle.std.proofs.Common.{refl}
use Rattle.mip_rules_agent.specs.Steps.{Claims}
use Rattle.mip_afresh_agent.proofs.ShowingLaws.{shown}
use Rattle.mip_afresh_agent.proofs.turn.Turn.claim.Goals as goal

pub returns : goal.returns
returns c = λ t shows. shown (Claims c.args.home) c.args.self.now _ refl c.in_ok-claim.ensures c.in_ok-push.ensures.ok t shows
