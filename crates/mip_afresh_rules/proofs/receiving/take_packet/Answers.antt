use Rattle.std.proofs.Common.{sym, subst}
use Rattle.std.specs.Prelude.{Ok, Err, OnOk, option_map}
use Rattle.mip_ipv6.specs.Packet.{packet as tree}
use Rattle.mip_mobhdr.specs.Said.{said}
use Rattle.mip_rules_correspondent.specs.Transitions.{Transition}
use Rattle.mip_afresh_rules.specs.Showing.{Shown}
use Rattle.mip_afresh_rules.proofs.ReceivedLaws.{receives-checked}
use Rattle.mip_afresh_rules.proofs.receiving.take_packet.Goals as goal

pub returns-in-Ok : goal.returns-in-Ok
returns-in-Ok c = λ t kept shows.
    let who = c.args.who.now in
    subst (λ (u : Transition). OnOk c.answer_role.result (Shown who.at.moment.0 c.answer_role.new.answers u))
    (sym (receives-checked who.me.now who.number c.args.received.now.bytes.now (tree c.args.received.now.packet) who.kept who.at.moment.0 c.args.answers.now t c.args.received.now.packet.place c.standing.result (Ok (option_map said c.in-Ok.message)) kept shows c.args.received.now.read c.args.received.now.placed c.standing.ensures c.in-Ok.ensures.exact))
    (c.answer_role.ensures t kept shows)

pub returns-in-Err : goal.returns-in-Err
returns-in-Err c = λ t kept shows.
    let who = c.args.who.now in
    subst (λ (u : Transition). OnOk c.refuse.result (Shown who.at.moment.0 c.refuse.new.answers u))
    (sym (receives-checked who.me.now who.number c.args.received.now.bytes.now (tree c.args.received.now.packet) who.kept who.at.moment.0 c.args.answers.now t c.args.received.now.packet.place c.standing.result (Err c.in-Err.refusal) kept shows c.args.received.now.read c.args.received.now.placed c.standing.ensures c.in-Err.ensures.exact))
    (c.refuse.ensures t shows)
