use Rattle.std.proofs.Common.{refl, sym}
use Rattle.std.proofs.lemmas.List.{append-nil}
use Rattle.mip_rules_agent.specs.Calls as calls
use Rattle.mip_rules_agent.specs.Steps.{Called}
use Rattle.mip_rules_agent.specs.Questions.{after}
use Rattle.mip_afresh_agent.proofs.ShowingLaws.{shown}
use Rattle.mip_afresh_agent.proofs.turn.Turn.call.Goals as goal

pub returns-clause-take : goal.returns-clause-take
unfolding after
returns-clause-take c = λ number shield packet claim t shows. shown (Called (calls.Take number shield packet claim)) c.args.self.now _ refl c.call.ensures (sym (append-nil c.args.self.now.answers)) t shows

pub returns-clause-tick : goal.returns-clause-tick
unfolding after
returns-clause-tick c = λ t shows. shown (Called calls.Tick) c.args.self.now _ refl c.call.ensures (sym (append-nil c.args.self.now.answers)) t shows
