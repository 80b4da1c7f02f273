use Rattle.std.proofs.Common.{sym, ap, ◌∙◌, subst, OnOk}
use Rattle.mip_words.specs.declared.address.Address.{Address}
use Rattle.mip_ipv6.specs.Packet.{packet as tree}
use Rattle.mip_rules_mobile.specs.ReceivingRules.{takes_inner}
use Rattle.mip_mobile_calls.specs.Inners.{inner_why}
use Rattle.mip_mobile_calls.proofs.Inner.{inner-dropped, inner-checked}
use Rattle.mip_mobile_calls.proofs.Contexts.{transition_at, from-context}
use Rattle.mip_mobile_registration.specs.Seen.{Shows}
use Rattle.mip_rules_mobile.specs.Transitions.{Transition}
use Rattle.mip_mobile_calls.proofs.tunnelled.take_inner.Goals as goal

pub returns-in-Some : goal.returns-in-Some
returns-in-Some c =
    let d = c.args.context.now in
    let h = c.args.arrival.now in
    let p = tree c.args.inner.now.packet in
    let bytes = c.args.inner.now.bytes.now in
    from-context d (λ t. OnOk c.drop_packet.result (Shows c.drop_packet.new.self (takes_inner h.number h.shield bytes p t)))
    (λ steps shows. subst (λ (u : Transition). OnOk c.drop_packet.result (Shows c.drop_packet.new.self u))
    (inner-dropped h.number h.shield bytes p (transition_at d steps) c.in-Some.why
    (sym (c.inner_why.ensures ∙ ap (λ (a : Address). inner_why a h.shield p.head) c.home.ensures.value) ∙ c.in-Some.is))
    (c.drop_packet.ensures (transition_at d steps) shows))

pub returns-in-None : goal.returns-in-None
returns-in-None c =
    let d = c.args.context.now in
    let h = c.args.arrival.now in
    let p = tree c.args.inner.now.packet in
    let bytes = c.args.inner.now.bytes.now in
    from-context d (λ t. OnOk c.take_checked.result (Shows c.take_checked.new.context (takes_inner h.number h.shield bytes p t)))
    (λ steps shows. subst (λ (u : Transition). OnOk c.take_checked.result (Shows c.take_checked.new.context u))
    (inner-checked h.number h.shield bytes p (transition_at d steps)
    (sym (c.inner_why.ensures ∙ ap (λ (a : Address). inner_why a h.shield p.head) c.home.ensures.value) ∙ c.in-None.is))
    (c.take_checked.ensures (transition_at d steps) shows))
