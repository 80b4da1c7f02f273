use Rattle.std.proofs.Common.{refl, ℕ}
use Rattle.mip_words.specs.declared.address.Address.{Address}
use Rattle.mip_rules_mobile.specs.Sendings.{Discovers}
use Rattle.mip_rules_mobile.specs.Transitions.{Transition, noted}
use Rattle.mip_rules_mobile.specs.HomeQuestions.{home_of}
use Rattle.mip_rules_mobile.specs.TimerQuestions.{seeking}
use Rattle.mip_afresh_mobile_rules.proofs.Asking.{asked}
use Rattle.std.proofs.Common.{subst}
use Rattle.mip_rules_mobile.specs.Steps.{Sends, SeeksAgain, Waits}
use Rattle.mip_afresh_mobile_state.specs.Turns.{Goes}
use Rattle.mip_afresh_mobile_rules.proofs.searching.ask_again.Goals as goal

pub returns : goal.returns
returns c =
    let turn = c.args.turn.now in
    let home = c.home-home.result in
    let wait = c.in_ok-wait.wait in
    let rule = λ (wait : ℕ) (home : Address) (t : Transition).
    noted (Waits seeking wait) (noted (Sends (Discovers home c.args.careof c.args.identifier)) (noted SeeksAgain t)) in
    subst (λ (n : ℕ). Goes c.wait.result (λ t. rule n (home_of t.known) t) turn c.wait.new.self) c.in_ok-wait.ensures
    (asked c.wait.result turn c.wait.new.self (λ k n. home_of k) home (rule wait) c.home-home.ensures
    (λ t shows. c.wait.ensures _ (c.in_ok-send_packet.ensures (Discovers home c.args.careof c.args.identifier) tt refl c.in_ok-request.ensures _ (c.in_ok-seek_again.ensures t shows))))
