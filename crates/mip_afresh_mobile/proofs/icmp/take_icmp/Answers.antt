use Rattle.std.proofs.Common.{sym, ap, ◌∙◌}
use Rattle.std.specs.Prelude.{Ok, Err}
use Rattle.mip_words.specs.declared.address.Address.{Address}
use Rattle.mip_ipv6.specs.Packet.{source_of, destination_of}
use Rattle.mip_icmp.specs.Said.{said}
use Rattle.mip_icmp.specs.Reading.{icmp_of}
use Rattle.mip_rules_mobile.specs.IcmpRules.{by_icmp, takes_icmp}
use Rattle.mip_afresh_mobile.proofs.Turned.{asked}
use Rattle.mip_afresh_mobile.proofs.icmp.take_icmp.Goals as goal

pub returns-in-Ok : goal.returns-in-Ok
unfolding takes_icmp
returns-in-Ok c = λ t shows.
    let handed = c.args.handed.now in
    let body = c.args.passed.now.packet.body.now in
    let head = c.args.passed.now.packet.head in
    asked c.take_message.result c.take_message.new.turn (λ r. by_icmp handed.number handed.shield r t) (Ok (said c.in-Ok.message)) (icmp_of (source_of head) (destination_of head) body)
    (sym c.in-Ok.ensures.exact ∙ ap (λ (a : Address). icmp_of a c.receiver.result body) c.sender.ensures ∙ ap (λ (a : Address). icmp_of (source_of head) a body) c.receiver.ensures)
    (c.take_message.ensures t shows)

pub returns-in-Err : goal.returns-in-Err
unfolding takes_icmp
returns-in-Err c = λ t shows.
    let handed = c.args.handed.now in
    let body = c.args.passed.now.packet.body.now in
    let head = c.args.passed.now.packet.head in
    asked c.drop_packet.result c.drop_packet.new.self (λ r. by_icmp handed.number handed.shield r t) (Err c.in-Err.field-0) (icmp_of (source_of head) (destination_of head) body)
    (sym c.in-Err.ensures.exact ∙ ap (λ (a : Address). icmp_of a c.receiver.result body) c.sender.ensures ∙ ap (λ (a : Address). icmp_of (source_of head) a body) c.receiver.ensures)
    (c.drop_packet.ensures t shows)
