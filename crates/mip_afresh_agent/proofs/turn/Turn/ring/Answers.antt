use Rattle.std.proofs.Common.{refl, sym}
use Rattle.std.proofs.lemmas.List.{append-nil}
use Rattle.mip_rules_agent.specs.Steps.{Rang}
use Rattle.mip_afresh_agent.proofs.ShowingLaws.{shown}
use Rattle.mip_afresh_agent.proofs.turn.Turn.ring.Goals as goal

pub returns : goal.returns
returns c = λ t shows. shown (Rang) c.args.self.now _ refl c.in_ok-ring.ensures (sym (append-nil c.args.self.now.answers)) t shows
