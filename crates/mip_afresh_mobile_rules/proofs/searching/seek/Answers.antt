use Rattle.std.proofs.Common.{refl, ℕ}
use Rattle.mip_words.specs.declared.address.Address.{Address}
use Rattle.mip_rules_mobile.specs.Sendings.{Discovers}
use Rattle.mip_rules_mobile.specs.Transitions.{Transition, noted}
use Rattle.mip_rules_mobile.specs.HomeQuestions.{home_of}
use Rattle.mip_rules_mobile.specs.TimerQuestions.{seeking}
use Rattle.mip_afresh_mobile_rules.proofs.Asking.{asked}
use Rattle.mip_words.specs.Constants.{initial_dhaad_timeout}
use Rattle.mip_rules_mobile.specs.Steps.{Sends, Seeks, Waits}
use Rattle.mip_rules_mobile.specs.HomeRules.{seeks}
use Rattle.mip_afresh_mobile_rules.proofs.searching.seek.Goals as goal

pub returns : goal.returns
unfolding seeks
returns c =
    let turn = c.args.turn.now in
    let home = c.home-home.result in
    let identifier = c.discoveries-identifier.result in
    let rule = λ (home : Address) (identifier : ℕ) (t : Transition).
    noted (Waits seeking initial_dhaad_timeout) (noted (Sends (Discovers home c.args.careof identifier)) (noted Seeks t)) in
    asked c.wait.result turn c.wait.new.self (λ k n. home_of k) home (λ home t. rule home t.known.discoveries t) c.home-home.ensures
    (asked c.wait.result turn c.wait.new.self (λ k n. k.discoveries) identifier (λ identifier. rule home identifier) c.discoveries-identifier.ensures
    (λ t shows. c.wait.ensures _ (c.in_ok-send_packet.ensures (Discovers home c.args.careof identifier) tt refl c.in_ok-request.ensures _ (c.in_ok-seek.ensures t shows))))
