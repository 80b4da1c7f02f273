use Rattle.std.proofs.Common.{ap, ◌∙◌, ℕ, List, Bool}
use Rattle.std.specs.Prelude.{None, if◌then◌else◌}
use Rattle.mip_words.specs.declared.address.Address.{Address}
use Rattle.mip_ipv6.specs.Tunnel.{encapsulated}
use Rattle.mip_rules_mobile.specs.HomeQuestions.{home_of}
use Rattle.mip_rules_mobile.specs.Sendings.{ByTunnel, is_signal, shield_to}
use Rattle.mip_mobile_context.proofs.outgoing.put_wrapped.Goals as goal

pub returns : goal.returns
returns c = λ inner t signals packet shows.
    let home : Address = home_of c.args.context.now.known in
    c.put.ensures (ByTunnel home c.args.careof c.args.agent inner) t tt
    (c.shield_for-shield.ensures
    ∙ ap (λ (b : Bool). if b then shield_to c.home.result c.args.agent else None) signals
    ∙ ap (λ (h : Address). if is_signal inner then shield_to h c.args.agent else None) c.home.ensures.value)
    (c.in_ok-bytes.ensures
    ∙ ap (λ (p : List ℕ). encapsulated c.args.careof c.args.agent p) packet)
    shows
