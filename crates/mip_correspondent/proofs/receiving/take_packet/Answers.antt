use Rattle.std.proofs.Common.{sym, subst}
use Rattle.std.specs.Prelude.{Ok, Err, IfOk, option_map}
use Rattle.mip_ipv6.specs.Packet.{packet as tree}
use Rattle.mip_mobhdr.specs.Said.{said}
use Rattle.mip_rules_correspondent.specs.Transitions.{Transition}
use Rattle.mip_correspondent.specs.Showing.{Shows, with_kept}
use Rattle.mip_correspondent.proofs.Receivings.{receives-checked}
use Rattle.mip_correspondent.proofs.receiving.take_packet.Goals as goal

pub returns-in_ok-refuse-in-Err-clause-shows : goal.returns-in_ok-refuse-in-Err-clause-shows
returns-in_ok-refuse-in-Err-clause-shows c = λ t shows.
    let me = c.args.context.now.identity.now in
    let now = c.args.context.now.moment.0 in
    let cache = c.args.context.now.cache.now in
    subst (λ (u : Transition). Shows now cache c.refuse.new.answers u)
    (sym (receives-checked me c.args.context.now.number c.args.arrived.now.bytes.now (tree c.args.arrived.now.packet) now cache c.args.answers.now t c.args.arrived.now.packet.place c.standing.result (Err c.in-Err.refusal) shows c.args.arrived.now.read c.args.arrived.now.placed c.standing.ensures c.in-Err.ensures.exact))
    (c.in_ok-refuse-in-Err.ensures cache t shows)

pub returns-in-Ok-clause-shows : goal.returns-in-Ok-clause-shows
returns-in-Ok-clause-shows c = λ t shows.
    let me = c.args.context.now.identity.now in
    let now = c.args.context.now.moment.0 in
    let cache = c.args.context.now.cache.now in
    subst (λ (u : Transition). IfOk c.answer_role.result (λ kept. Shows now (with_kept now kept cache) c.answer_role.new.answers u))
    (sym (receives-checked me c.args.context.now.number c.args.arrived.now.bytes.now (tree c.args.arrived.now.packet) now cache c.args.answers.now t c.args.arrived.now.packet.place c.standing.result (Ok (option_map said c.in-Ok.message)) shows c.args.arrived.now.read c.args.arrived.now.placed c.standing.ensures c.in-Ok.ensures.exact))
    (c.answer_role.ensures.shows t shows)
