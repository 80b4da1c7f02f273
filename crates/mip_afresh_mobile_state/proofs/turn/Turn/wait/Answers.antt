use Rattle.std.proofs.Common.{refl, ◌∙◌}
use Rattle.mip_rules_mobile.specs.Steps.{Waits}
use Rattle.mip_rules_mobile.specs.Questions.{after}
use Rattle.mip_afresh_mobile_state.proofs.TurnLaws.{silent, waits, waits-makes}
use Rattle.mip_afresh_mobile_state.proofs.turn.Turn.wait.Goals as goal

pub returns : goal.returns
unfolding after
returns c = λ t shows. silent (Waits c.args.work c.args.ms) c.args.self.now c.wait.new.self refl (waits c.args.self.now.now.0 c.args.work c.args.ms) (c.in_ok-wait.ensures ∙ waits-makes c.args.self.now.now.0 c.args.work c.args.ms c.args.self.now.mobile) t shows
