use Rattle.std.proofs.Common.{ap, ◌∙◌, ℕ}
use Rattle.mip_words.specs.declared.address.Address.{Address}
use Rattle.mip_rules_mobile.specs.Steps.{Sends, Waits}
use Rattle.mip_rules_mobile.specs.Transitions.{Transition, noted}
use Rattle.mip_rules_mobile.specs.HomeQuestions.{home_of, next_to}
use Rattle.mip_rules_mobile.specs.TimerQuestions.{resending_home}
use Rattle.mip_afresh_mobile_state.specs.Turns.{home_in}
use Rattle.mip_afresh_mobile_rules.proofs.Asking.{asked, home-known, home-here}
use Rattle.mip_rules_mobile.specs.Sendings.{DeregistersHome, deregistration_packet}
use Rattle.mip_rules_mobile.specs.HomeRules.{deregisters_with}
use Rattle.mip_afresh_mobile_rules.proofs.homes.deregister_with.Goals as goal

pub returns : goal.returns
unfolding deregisters_with
returns c =
    let turn = c.args.turn.now in
    let agent = c.args.agent in
    let sequence = c.next_to-sequence.result in
    let rule = λ (home : Address) (sequence : ℕ) (t : Transition).
    noted (Waits resending_home c.args.wait) (noted (Sends (DeregistersHome home agent sequence)) t) in
    asked c.wait.result turn c.wait.new.self (λ k n. home_of k) (home_in turn) (λ home t. rule home (next_to agent t.known.numberings) t) (home-known turn)
    (asked c.wait.result turn c.wait.new.self (λ k n. next_to agent k.numberings) sequence (λ sequence. rule (home_in turn) sequence) c.next_to-sequence.ensures
    (λ t shows.
    c.wait.ensures _ (c.in_ok-send_deregistration.ensures
    (c.in_ok-packet.ensures ∙ ap (λ (home : Address). deregistration_packet home agent sequence) (home-here turn t c.home-home.result shows c.home-home.ensures)) t shows)))
