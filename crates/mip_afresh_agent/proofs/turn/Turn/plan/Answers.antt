use Rattle.std.proofs.Common.{refl, sym}
use Rattle.std.proofs.lemmas.List.{append-nil}
use Rattle.mip_rules_agent.specs.Calls as calls
use Rattle.mip_rules_agent.specs.Steps.{Called}
use Rattle.mip_afresh_agent.proofs.ShowingLaws.{shown}
use Rattle.mip_afresh_agent.proofs.turn.Turn.plan.Goals as goal

pub returns : goal.returns
returns c = λ t shows. shown (Called (calls.Plan c.args.valid c.args.preferred)) c.args.self.now _ refl c.plan.ensures (sym (append-nil c.args.self.now.answers)) t shows
