use Rattle.std.proofs.Common.{sym, subst}
use Rattle.std.specs.Prelude.{Bool, Some, is_none, option_map}
use Rattle.mip_rules_mobile.specs.Transitions.{Transition}
use Rattle.mip_afresh_mobile_state.specs.declared.trial.Stage.{Stage}
use Rattle.mip_afresh_mobile_state.specs.Trials.{test_seen, staged}
use Rattle.mip_rules_mobile.specs.TrialRules.{asks_home, asks_careof, asks_again, waits, goes_on}
use Rattle.mip_afresh_mobile_state.specs.Turns.{Goes}
use Rattle.mip_afresh_mobile_rules.proofs.trials.go_on_with.Goals as goal

pub returns-in_ok-ask_again-in-Probing : goal.returns-in_ok-ask_again-in-Probing
unfolding asks_again
returns-in_ok-ask_again-in-Probing c =
    let row = c.args.row in
    let peer = c.args.peer in
    let stage = c.in-Probing in
    let rule = λ (home careof : Bool) (t : Transition). waits row c.args.wait (asks_careof careof t.known.standing peer stage.careof_cookie.0 (asks_home home peer stage.home_cookie.0 t)) in
    subst (λ (s : Stage). Goes c.wait.result (goes_on (Some (staged c.args.trial.peer c.args.trial.trial s)) row peer c.args.wait) c.args.turn.now c.wait.new.self) (sym stage.is)
    (subst (λ (home : Bool). Goes c.wait.result (rule home (is_none (option_map test_seen stage.careof))) c.args.turn.now c.wait.new.self) c.is_missing.ensures
    (subst (λ (careof : Bool). Goes c.wait.result (rule c.is_missing.result careof) c.args.turn.now c.wait.new.self) c.is_missing-in-Probing.ensures
    (λ t shows. c.wait.ensures _ (c.in_ok-ask_again-in-Probing.ensures t shows))))
