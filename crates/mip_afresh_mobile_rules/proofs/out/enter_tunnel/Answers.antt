use Rattle.std.proofs.Common.{ap, ◌∙◌, List, ℕ}
use Rattle.std.specs.Prelude.{Bool, Option, None, if◌then◌else◌}
use Rattle.mip_words.specs.declared.address.Address.{Address}
use Rattle.mip_words.specs.declared.shield.Shield.{Shield}
use Rattle.mip_ipv6.specs.Tunnel.{encapsulated}
use Rattle.mip_rules_mobile.specs.Sendings.{ByTunnel, shield_of, shield_to}
use Rattle.mip_rules_mobile.specs.Steps.{Sends}
use Rattle.mip_rules_mobile.specs.Transitions.{noted}
use Rattle.mip_rules_mobile.specs.HomeQuestions.{home_of}
use Rattle.mip_afresh_mobile_rules.proofs.Asking.{asked}
use Rattle.mip_afresh_mobile_state.specs.Turns.{home_in}
use Rattle.mip_afresh_mobile_rules.proofs.Asking.{home-known, home-here}
use Rattle.mip_afresh_mobile_rules.proofs.out.enter_tunnel.Goals as goal

pub returns : goal.returns
returns c = λ inner packet signal t shows.
    let turn = c.args.turn.now in
    let here = home-here turn t c.home-home.result shows c.home-home.ensures in
    asked c.send_packet.result turn c.send_packet.new.self (λ k n. home_of k) (home_in turn) (λ home. noted (Sends (ByTunnel home c.args.careof c.args.agent inner)))
    (home-known turn)
    (c.send_packet.ensures (ByTunnel (home_in turn) c.args.careof c.args.agent inner) tt
    (c.shield_for.ensures ∙ ap (λ (b : Bool). (let o : Option Shield = (if b then shield_to c.home-home.result c.args.agent else None) in o)) signal
    ∙ ap (λ (home : Address). shield_of (ByTunnel home c.args.careof c.args.agent inner)) here)
    (c.in_ok-outer.ensures ∙ ap (λ (bytes : List ℕ). encapsulated c.args.careof c.args.agent bytes) (c.as_slice.ensures ∙ packet))) t shows
