use Rattle.std.proofs.Common.{refl}
use Rattle.mip_rules_mobile.specs.Steps.{Tries}
use Rattle.mip_rules_mobile.specs.Questions.{after}
use Rattle.mip_afresh_mobile_state.proofs.TurnLaws.{silent}
use Rattle.mip_rules_mobile.specs.Trials.{Acknowledge}
use Rattle.mip_afresh_mobile_state.proofs.turn.Turn.acknowledge_trial.Goals as goal

pub returns : goal.returns
unfolding after
returns c = λ t shows. silent (Tries c.args.row (Acknowledge c.args.sequence c.args.granted)) c.args.self.now c.change_trial.new.self refl (λ k. refl) c.change_trial.ensures t shows
