use Rattle.std.proofs.Common.{sym}
use Rattle.std.specs.Prelude.{Ok, Err}
use Rattle.mip_ipv6.specs.Packet.{packet as tree}
use Rattle.mip_ipv6.specs.Reading.{packet_of}
use Rattle.mip_reception.specs.Words.{packet_why}
use Rattle.mip_rules_mobile.specs.Steps.{Drops}
use Rattle.mip_rules_mobile.specs.Transitions.{noted}
use Rattle.mip_rules_mobile.specs.ReceivingRules.{receives, takes}
use Rattle.mip_afresh_mobile.proofs.Turned.{asked}
use Rattle.mip_afresh_mobile.proofs.receiving.take.Goals as goal

pub returns-in-Ok : goal.returns-in-Ok
unfolding takes
returns-in-Ok c = λ t are shows.
    let arrival = c.args.arrival.now in
    let bytes = c.args.bytes.now in
    asked c.take_packet.result c.take_packet.new.turn (λ r. receives arrival.number arrival.shield bytes r t) (Ok (tree c.in-Ok.packet)) (packet_of bytes) (sym c.in-Ok.ensures.exact)
    (c.take_packet.ensures t are shows)

pub returns-in-Err : goal.returns-in-Err
unfolding takes
returns-in-Err c = λ t are shows.
    let arrival = c.args.arrival.now in
    let bytes = c.args.bytes.now in
    asked c.drop_packet.result c.drop_packet.new.self (λ r. receives arrival.number arrival.shield bytes r t) (Err c.in-Err.fault) (packet_of bytes) (sym c.in-Err.ensures.exact)
    (asked c.drop_packet.result c.drop_packet.new.self (λ why. noted (Drops arrival.number why) t) c.packet_why.result (packet_why c.in-Err.fault) c.packet_why.ensures (c.drop_packet.ensures t shows))
