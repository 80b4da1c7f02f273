use Rattle.std.proofs.Common.{refl, sym}
use Rattle.std.proofs.lemmas.List.{append-nil}
use Rattle.mip_rules_agent.specs.Calls as calls
use Rattle.mip_rules_agent.specs.Steps.{Called}
use Rattle.mip_afresh_agent.proofs.ShowingLaws.{shown}
use Rattle.mip_afresh_agent.proofs.turn.Turn.hear.Goals as goal

pub returns : goal.returns
returns c = λ t shows. shown (Called (calls.Hear c.args.agent c.args.preference c.args.life)) c.args.self.now _ refl c.in_ok-hear.ensures (sym (append-nil c.args.self.now.answers)) t shows
