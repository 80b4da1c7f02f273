use Rattle.std.proofs.Common.{sym, ap, ◌∙◌, subst, OnOk, List, ℕ}
use Rattle.std.specs.Prelude.{Option, Some, None, IfSome}
use Rattle.mip_words.specs.declared.address.Address.{Address}
use Rattle.mip_reception.specs.Replies.{reply_packet}
use Rattle.mip_rules_mobile.specs.Transitions.{Transition}
use Rattle.mip_mobile_context.specs.Outgoing.{CanEnter}
use Rattle.mip_mobile_context.specs.Seen.{Shows}
use Rattle.mip_mobile_context.proofs.Noted.{shows-known}
use Rattle.mip_mobile_context.proofs.Entering.{reply-enters}
use Rattle.mip_mobile_context.proofs.Outs.{replies-by}
use Rattle.mip_mobile_context.proofs.part.reply.Goals as goal

pub invariant_of-packet : goal.invariant_of-packet
invariant_of-packet c = record {
  enters = subst (λ (o : Option (List ℕ)). IfSome o CanEnter) (sym c.in_ok-bytes.ensures.bytes ∙ c.in-Some.is) (reply-enters c.home.result c.args.source c.args.packet.now c.args.reply);
}

pub returns-in-Some : goal.returns-in-Some
returns-in-Some c = λ t shows.
    subst (λ (u : Transition). OnOk c.go_out_of_part.result (Shows c.go_out_of_part.new.context u))
    (replies-by c.args.source c.args.packet.now c.args.reply t c.args.context.now.known (Some c.in-Some.bytes) (shows-known c.args.context.now t shows)
    (sym c.in-Some.is ∙ c.in_ok-bytes.ensures.bytes ∙ ap (λ (h : Address). reply_packet h c.args.source c.args.packet.now c.args.reply) c.home.ensures.value))
    (c.go_out_of_part.ensures t shows)

pub returns-in-None : goal.returns-in-None
returns-in-None c = λ t shows.
    subst (λ (u : Transition). Shows c.args.context.now u)
    (replies-by c.args.source c.args.packet.now c.args.reply t c.args.context.now.known None (shows-known c.args.context.now t shows)
    (sym c.in-None.is ∙ c.in_ok-bytes.ensures.bytes ∙ ap (λ (h : Address). reply_packet h c.args.source c.args.packet.now c.args.reply) c.home.ensures.value))
    shows
