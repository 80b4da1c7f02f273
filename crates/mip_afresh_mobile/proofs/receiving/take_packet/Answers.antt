use Rattle.std.proofs.Common.{sym, false}
use Rattle.std.specs.Prelude.{Ok, Err, option_map}
use Rattle.mip_ipv6.specs.Packet.{packet as tree}
use Rattle.mip_mobhdr.specs.Said.{said}
use Rattle.mip_reception.specs.Checks.{checked}
use Rattle.mip_rules_correspondent.specs.Rules.{place_in}
use Rattle.mip_rules_mobile.specs.ReceivingRules.{after_checks, standing_of}
use Rattle.mip_afresh_mobile.proofs.Turned.{asked}
use Rattle.mip_afresh_mobile.proofs.Received.{kept-holds, kept-here, checked-here}
use Rattle.mip_afresh_mobile.proofs.receiving.take_packet.Goals as goal

pub returns-in-Ok : goal.returns-in-Ok
returns-in-Ok c = λ t are shows.
    let arrival = c.args.arrival.now in
    let turn = c.args.turn.now in
    let received = c.args.received.now in
    let bytes = received.bytes.now in
    let p = tree received.packet in
    let kept = c.in_ok-handed.handed.kept in
    let m = option_map said c.in-Ok.message in
    let is = kept-here arrival false turn.now.0 p.head c.in_ok-handed.handed t.known.part.known.cache c.in_ok-handed.ensures are in
    let standing = c.standing_of.ensures t (kept-holds turn t kept p.head.source p.head.home is shows) shows in
    asked c.take_passed.result c.take_passed.new.turn (λ r. after_checks arrival.number arrival.shield bytes p r t) (Ok m) (checked (standing_of t.known t.now p.head) (place_in bytes p) p)
    (sym (checked-here (standing_of t.known t.now p.head) c.standing_of.result received.packet.place bytes p (Ok m) standing received.placed c.in-Ok.ensures.exact))
    (c.take_passed.ensures bytes t are shows)

pub returns-in-Err : goal.returns-in-Err
returns-in-Err c = λ t are shows.
    let arrival = c.args.arrival.now in
    let turn = c.args.turn.now in
    let received = c.args.received.now in
    let bytes = received.bytes.now in
    let p = tree received.packet in
    let kept = c.in_ok-handed.handed.kept in
    let is = kept-here arrival false turn.now.0 p.head c.in_ok-handed.handed t.known.part.known.cache c.in_ok-handed.ensures are in
    let standing = c.standing_of.ensures t (kept-holds turn t kept p.head.source p.head.home is shows) shows in
    asked c.refuse.result c.refuse.new.turn (λ r. after_checks arrival.number arrival.shield bytes p r t) (Err c.in-Err.refusal) (checked (standing_of t.known t.now p.head) (place_in bytes p) p)
    (sym (checked-here (standing_of t.known t.now p.head) c.standing_of.result received.packet.place bytes p (Err c.in-Err.refusal) standing received.placed c.in-Err.ensures.exact))
    (c.refuse.ensures t shows)
