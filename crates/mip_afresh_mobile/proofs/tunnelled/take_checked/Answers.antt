use Rattle.std.proofs.Common.{true, sym}
use Rattle.std.specs.Prelude.{Ok, Err, option_map}
use Rattle.mip_ipv6.specs.Packet.{packet as tree}
use Rattle.mip_mobhdr.specs.Said.{said}
use Rattle.mip_reception.specs.Checks.{checked}
use Rattle.mip_rules_correspondent.specs.Rules.{place_in}
use Rattle.mip_rules_mobile.specs.ReceivingRules.{after_inner_checks, inner_standing, by_role, refuses}
use Rattle.mip_afresh_mobile.specs.declared.handed.Handed.{Handed}
use Rattle.mip_afresh_mobile.specs.Asking.{handed_as}
use Rattle.mip_afresh_mobile.proofs.Turned.{asked}
use Rattle.mip_afresh_mobile.proofs.Received.{kept-here, inner-checked}
use Rattle.mip_afresh_mobile.proofs.tunnelled.take_checked.Goals as goal

pub returns-in-Ok : goal.returns-in-Ok
returns-in-Ok c = λ t are shows.
    let arrival = c.args.arrival.now in
    let turn = c.args.turn.now in
    let received = c.args.received.now in
    let bytes = received.bytes.now in
    let p = tree received.packet in
    let handed = c.in_ok-handed.handed in
    let m = option_map said c.in-Ok.message in
    let result = c.take_role.result in
    let new = c.take_role.new.turn in
    let kept = kept-here arrival true turn.now.0 p.head handed t.known.part.known.cache c.in_ok-handed.ensures are in
    asked result new (λ r. after_inner_checks arrival.number arrival.shield bytes p r t) (Ok m) (checked (inner_standing t.known t.now p.head) (place_in bytes p) p)
    (sym (inner-checked turn t handed.kept received.packet.place bytes p (Ok m) kept shows received.placed c.in-Ok.ensures.exact))
    (asked result new (λ (h : Handed). by_role h.number h.tunnelled h.shield p m t) handed (handed_as arrival true turn.now.0 p.head) c.in_ok-handed.ensures (c.take_role.ensures t kept shows))

pub returns-in-Err : goal.returns-in-Err
returns-in-Err c = λ t are shows.
    let arrival = c.args.arrival.now in
    let turn = c.args.turn.now in
    let received = c.args.received.now in
    let bytes = received.bytes.now in
    let p = tree received.packet in
    let handed = c.in_ok-handed.handed in
    let result = c.refuse.result in
    let new = c.refuse.new.turn in
    let kept = kept-here arrival true turn.now.0 p.head handed t.known.part.known.cache c.in_ok-handed.ensures are in
    asked result new (λ r. after_inner_checks arrival.number arrival.shield bytes p r t) (Err c.in-Err.refusal) (checked (inner_standing t.known t.now p.head) (place_in bytes p) p)
    (sym (inner-checked turn t handed.kept received.packet.place bytes p (Err c.in-Err.refusal) kept shows received.placed c.in-Err.ensures.exact))
    (asked result new (λ (h : Handed). refuses h.number bytes p.head.source c.in-Err.refusal t) handed (handed_as arrival true turn.now.0 p.head) c.in_ok-handed.ensures (c.refuse.ensures t shows))
