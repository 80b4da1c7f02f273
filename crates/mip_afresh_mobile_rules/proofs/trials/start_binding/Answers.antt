use Rattle.mip_bulist.specs.declared.aim.Aim.TheVariants.{Bind}
use Rattle.mip_words.specs.Constants.{initial_bindack_timeout}
use Rattle.mip_words.specs.declared.token.Cookie.{Cookie}
use Rattle.mip_rules_mobile.specs.Trials.{Start}
use Rattle.mip_rules_mobile.specs.Sendings.{AsksHome, AsksCareof}
use Rattle.mip_rules_mobile.specs.Steps.{Tries, Sends}
use Rattle.mip_rules_mobile.specs.RowQuestions.{first_cookie, second_cookie}
use Rattle.mip_rules_mobile.specs.Transitions.{Transition, noted}
use Rattle.mip_rules_mobile.specs.OutRules.{goes_out}
use Rattle.mip_rules_mobile.specs.TrialRules.{waits}
use Rattle.mip_afresh_mobile_rules.proofs.Asking.{asked}
use Rattle.mip_afresh_mobile_rules.proofs.trials.start_binding.Goals as goal

pub returns : goal.returns
returns c =
    let turn = c.args.turn.now in
    let row = c.args.row in
    let rule = λ (home other : Cookie) (t : Transition).
    waits row initial_bindack_timeout
    (noted (Sends (AsksCareof c.args.careof c.args.peer other.0)) (goes_out (AsksHome c.args.peer home.0) (noted (Tries row (Start (Bind c.args.careof) home other)) t))) in
    asked c.wait.result turn c.wait.new.self (λ k n. first_cookie k) c.first_cookie-home.result (λ home t. rule home (second_cookie t.known) t) c.first_cookie-home.ensures
    (asked c.wait.result turn c.wait.new.self (λ k n. second_cookie k) c.second_cookie-other.result (λ other. rule c.first_cookie-home.result other) c.second_cookie-other.ensures
    (λ t shows. c.wait.ensures _ (c.in_ok-ask_careof.ensures _ (c.in_ok-ask_home.ensures _ (c.in_ok-start_trial.ensures t shows)))))
