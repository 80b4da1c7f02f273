use Rattle.std.proofs.Common.{sym, ap, ◌∙◌, subst, OnOk, arith}
use Rattle.std.specs.Prelude.{Result}
use Rattle.mip_words.specs.declared.why.Why.{Why}
use Rattle.mip_ipv6.specs.Packet.{packet as tree, Packet}
use Rattle.mip_ipv6.specs.declared.exit_fault.ExitFault.{ExitFault}
use Rattle.mip_ipv6.proofs.Placed.{place_is}
use Rattle.mip_rules_mobile.specs.Steps.{Drops}
use Rattle.mip_rules_mobile.specs.Transitions.{Transition, noted}
use Rattle.mip_rules_mobile.specs.ReceivingRules.{opens_with}
use Rattle.mip_mobile_registration.specs.Seen.{Shows}
use Rattle.mip_mobile_calls.proofs.Inner.{not-opened, opened-routable, inner-short}
use Rattle.mip_mobile_calls.proofs.tunnelled.open_from.Goals as goal

pub invariant_of-inner : goal.invariant_of-inner
invariant_of-inner c =
    let outer = c.args.outer.now in
    let place = c.in-Ok.ensures.place in
    record {
      plain = opened-routable c.args.agent (tree outer.packet) (tree c.in-Ok.packet) c.in-Ok.ensures.exact;
      short = inner-short c.in-Ok.packet.place 65535 outer.packet.body.now c.in-Ok.packet.body.now outer.short place.2;
      placed = place_is c.in-Ok.packet.place outer.packet.body.now c.in-Ok.packet.body.now place.1 place.2;
      near = omega (arith, place.1, outer.short);
    }

pub returns-in-Ok : goal.returns-in-Ok
returns-in-Ok c = λ t shows.
    let h = c.args.arrival.now in
    subst (λ (r : Result Packet ExitFault). OnOk c.take_inner.result (Shows c.take_inner.new.context (opens_with h.number h.shield c.args.outer.now.packet.body.now r t)))
    (sym c.in-Ok.ensures.exact) (c.take_inner.ensures t shows)

pub returns-in-Err : goal.returns-in-Err
returns-in-Err c = λ t shows.
    let h = c.args.arrival.now in
    let bytes = c.args.outer.now.packet.body.now in
    subst (λ (r : Result Packet ExitFault). OnOk c.drop_packet.result (Shows c.drop_packet.new.self (opens_with h.number h.shield bytes r t))) (sym c.in-Err.ensures.exact)
    (subst (λ (u : Transition). OnOk c.drop_packet.result (Shows c.drop_packet.new.self u))
    (ap (λ (w : Why). noted (Drops h.number w) t) c.entry_why.ensures ∙ not-opened h.number h.shield bytes c.in-Err.fault t) (c.drop_packet.ensures t shows))
