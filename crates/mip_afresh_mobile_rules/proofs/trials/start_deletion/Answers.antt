use Rattle.mip_bulist.specs.declared.aim.Aim.TheVariants.{Delete}
use Rattle.mip_words.specs.Constants.{initial_bindack_timeout}
use Rattle.mip_rules_mobile.specs.Trials.{Start}
use Rattle.mip_rules_mobile.specs.Sendings.{AsksHome}
use Rattle.mip_rules_mobile.specs.Steps.{Tries}
use Rattle.mip_rules_mobile.specs.RowQuestions.{first_cookie}
use Rattle.mip_rules_mobile.specs.Transitions.{noted}
use Rattle.mip_rules_mobile.specs.OutRules.{goes_out}
use Rattle.mip_rules_mobile.specs.TrialRules.{waits}
use Rattle.mip_afresh_mobile_rules.proofs.Asking.{asked}
use Rattle.mip_afresh_mobile_rules.proofs.trials.start_deletion.Goals as goal

pub returns : goal.returns
returns c =
    asked c.wait.result c.args.turn.now c.wait.new.self (λ k n. first_cookie k) c.first_cookie-home.result
    (λ home t. waits c.args.row initial_bindack_timeout (goes_out (AsksHome c.args.peer home.0) (noted (Tries c.args.row (Start Delete home home)) t)))
    c.first_cookie-home.ensures (λ t shows. c.wait.ensures _ (c.in_ok-ask_home.ensures _ (c.in_ok-start_trial.ensures t shows)))
