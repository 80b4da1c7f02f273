use Rattle.std.proofs.Common.{refl}
use Rattle.mip_rules_agent.specs.Steps.{Releases}
use Rattle.mip_afresh_agent.proofs.ShowingLaws.{shown}
use Rattle.mip_afresh_agent.proofs.turn.Turn.release.Goals as goal

pub returns : goal.returns
returns c = λ t shows. shown (Releases c.args.home) c.args.self.now _ refl c.in_ok-release.ensures c.in_ok-push.ensures.ok t shows
