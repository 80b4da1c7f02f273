use Rattle.std.proofs.Common.{sym, ap, ◌∙◌, ◌==◌, ◌&&◌}
use Rattle.std.specs.Prelude.{not, is_some, is_none}
use Rattle.mip_words.specs.Protocols.{ipv6, mobility_header}
use Rattle.mip_words.specs.declared.address.Address.{Address}
use Rattle.mip_ipv6.specs.Packet.{packet as tree}
use Rattle.mip_reception.specs.Checks.{checked}
use Rattle.mip_rules_correspondent.specs.Rules.{place_in}
use Rattle.mip_rules_mobile.specs.HomeQuestions.{home_of}
use Rattle.mip_rules_mobile.specs.ReceivingRules.{after_inner_checks, inner_standing, takes_inner}
use Rattle.mip_afresh_mobile.specs.Tunnels.{fault_in, unless_fault}
use Rattle.mip_afresh_mobile.proofs.Turned.{shows-seen, asked}
use Rattle.mip_afresh_mobile.proofs.Received.{fault-first}
use Rattle.mip_afresh_mobile.proofs.tunnelled.take_inner.Goals as goal

pub returns : goal.returns
unfolding takes_inner
returns c = λ t are shows.
    let number = c.args.arrival.now.number in
    let shield = c.args.arrival.now.shield in
    let bytes = c.args.received.now.bytes.now in
    let p = tree c.args.received.now.packet in
    let head = p.head in
    let home = home_of t.known in
    let rest = after_inner_checks number shield bytes p (checked (inner_standing t.known t.now head) (place_in bytes p) p) t in
    let result = c.take_unless.result in
    let new = c.take_unless.new.turn in
    asked result new (λ u. u) (unless_fault (fault_in home shield head) number rest t) (takes_inner number shield bytes p t)
    (sym (fault-first (head.proto == ipv6) (not (head.destination.0 == home.0)) (is_some head.route) ((head.proto == mobility_header) && is_none shield) number rest t))
    (asked result new (λ f. unless_fault f number rest t) c.fault_of-fault.result (fault_in home shield head)
    (c.fault_of-fault.ensures ∙ ap (λ (h : Address). fault_in h shield head) (c.home-home.ensures t.known (shows-seen c.args.turn.now t shows)))
    (c.take_unless.ensures t are shows))
