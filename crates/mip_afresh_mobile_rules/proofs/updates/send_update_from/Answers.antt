use Rattle.std.proofs.Common.{refl, ap, ◌∙◌, ℕ}
use Rattle.mip_words.specs.declared.address.Address.{Address}
use Rattle.mip_rules_mobile.specs.Sendings.{PeerUpdate, update_packet}
use Rattle.mip_rules_mobile.specs.Steps.{Updates}
use Rattle.mip_rules_mobile.specs.Transitions.{Transition, noted}
use Rattle.mip_rules_mobile.specs.HomeQuestions.{home_of, binding_number_of}
use Rattle.mip_rules_mobile.specs.TrialRules.{waits}
use Rattle.mip_afresh_mobile_state.specs.Turns.{home_in}
use Rattle.mip_afresh_mobile_rules.proofs.Asking.{asked, home-known, home-here}
use Rattle.mip_afresh_mobile_rules.proofs.updates.send_update_from.Goals as goal

pub returns : goal.returns
returns c =
    let turn = c.args.turn.now in
    let row = c.args.row in
    let made = c.args.made.now in
    let number = c.binding_number-number.result in
    let update = λ (home : Address) (number : ℕ). (let u : PeerUpdate = record { home = home; source = c.args.source; peer = c.args.peer; number = number; made = made } in u) in
    let rule = λ (home : Address) (number : ℕ) (t : Transition). waits row c.args.wait (noted (Updates row (update home number)) t) in
    asked c.wait.result turn c.wait.new.self (λ k n. home_of k) (home_in turn) (λ home t. rule home (binding_number_of t.known) t) (home-known turn)
    (asked c.wait.result turn c.wait.new.self (λ k n. binding_number_of k) number (λ number. rule (home_in turn) number) c.binding_number-number.ensures
    (λ t shows.
    c.wait.ensures _ (c.in_ok-send_update.ensures (update (home_in turn) number) refl
    (c.in_ok-packet.ensures ∙ ap (λ (home : Address). update_packet (update home number)) (home-here turn t c.home-home.result shows c.home-home.ensures)) t shows)))
