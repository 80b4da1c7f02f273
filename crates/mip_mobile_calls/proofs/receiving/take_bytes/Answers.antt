use Rattle.std.proofs.Common.{sym, subst, OnOk}
use Rattle.std.specs.Prelude.{Result}
use Rattle.mip_words.specs.declared.why.Why.{Why}
use Rattle.mip_ipv6.specs.declared.not_packet.NotPacket.{NotPacket}
use Rattle.mip_ipv6.specs.Packet.{Packet}
use Rattle.mip_rules_mobile.specs.Steps.{Drops}
use Rattle.mip_rules_mobile.specs.ReceivingRules.{receives, takes}
use Rattle.mip_mobile_calls.proofs.Contexts.{transition_at, from-context}
use Rattle.mip_mobile_registration.specs.Seen.{Shows}
use Rattle.mip_rules_mobile.specs.Transitions.{noted}
use Rattle.mip_mobile_calls.proofs.receiving.take_bytes.Goals as goal

pub returns-in-Err : goal.returns-in-Err
unfolding takes
returns-in-Err c = λ t shows.
    let h = c.args.arrival.now in
    let bytes = c.args.bytes.now in
    subst (λ (r : Result Packet NotPacket). OnOk c.drop_packet.result (Shows c.drop_packet.new.self (receives h.number h.shield bytes r t))) (sym c.in-Err.ensures.exact)
    (subst (λ (w : Why). OnOk c.drop_packet.result (Shows c.drop_packet.new.self (noted (Drops h.number w) t))) c.packet_why.ensures (c.drop_packet.ensures t shows))

pub returns-in-Ok : goal.returns-in-Ok
unfolding takes
returns-in-Ok c =
    let d = c.args.context.now in
    let h = c.args.arrival.now in
    let bytes = c.args.bytes.now in
    from-context d (λ t. OnOk c.take_packet.result (Shows c.take_packet.new.context (takes h.number h.shield bytes t)))
    (λ steps shows. subst (λ (r : Result Packet NotPacket). OnOk c.take_packet.result (Shows c.take_packet.new.context (receives h.number h.shield bytes r (transition_at d steps))))
    (sym c.in-Ok.ensures.exact) (c.take_packet.ensures (transition_at d steps) shows))
