use Rattle.std.proofs.Common.{ℕ, subst}
use Rattle.std.specs.Prelude.{option_map}
use Rattle.mip_afresh_mobile_state.specs.Turns.{Goes}
use Rattle.mip_afresh_mobile_state.specs.Trials.{any_seen}
use Rattle.mip_rules_mobile.specs.RowQuestions.{trial_of}
use Rattle.mip_rules_mobile.specs.Timing.{doubled}
use Rattle.mip_rules_mobile.specs.TrialRules.{goes_on}
use Rattle.mip_afresh_mobile_rules.proofs.Asking.{asked}
use Rattle.mip_afresh_mobile_rules.proofs.trials.go_on_at.Goals as goal

pub returns : goal.returns
returns c =
    asked c.go_on.result c.args.turn.now c.go_on.new.turn (λ k n. trial_of k c.args.row) (option_map (λ r. any_seen r.peer r.trial) c.trial_of-trial.result)
    (λ trial. goes_on trial c.args.row c.args.peer (doubled c.args.wait)) c.trial_of-trial.ensures
    (subst (λ (wait : ℕ). Goes c.go_on.result (goes_on (option_map (λ r. any_seen r.peer r.trial) c.trial_of-trial.result) c.args.row c.args.peer wait) c.args.turn.now c.go_on.new.turn) c.doubled.ensures c.go_on.ensures)
