use Rattle.std.proofs.Common.{sym, ◌∙◌, subst, OnOk}
use Rattle.std.specs.Prelude.{Option}
use Rattle.mip_words.specs.declared.address.Address.{Address}
use Rattle.mip_ipv6.specs.Packet.{packet as tree}
use Rattle.mip_rules_mobile.specs.ReceivingRules.{opens_from, opens}
use Rattle.mip_mobile_calls.proofs.Contexts.{transition_at, from-context}
use Rattle.mip_mobile_registration.specs.Seen.{Shows}
use Rattle.mip_mobile_calls.proofs.tunnelled.open.Goals as goal

pub returns-in-Some : goal.returns-in-Some
unfolding opens
returns-in-Some c =
    let d = c.args.context.now in
    let h = c.args.arrival.now in
    let p = tree c.args.outer.now.packet in
    from-context d (λ t. OnOk c.open_from.result (Shows c.open_from.new.context (opens h.number h.shield p t)))
    (λ steps shows. subst (λ (o : Option Address). OnOk c.open_from.result (Shows c.open_from.new.context (opens_from o h.number h.shield p (transition_at d steps))))
    (sym c.in-Some.is ∙ c.agent.ensures) (c.open_from.ensures (transition_at d steps) shows))

pub returns-in-None : goal.returns-in-None
unfolding opens
returns-in-None c =
    let d = c.args.context.now in
    let h = c.args.arrival.now in
    let p = tree c.args.outer.now.packet in
    from-context d (λ t. OnOk c.drop_packet.result (Shows c.drop_packet.new.self (opens h.number h.shield p t)))
    (λ steps shows. subst (λ (o : Option Address). OnOk c.drop_packet.result (Shows c.drop_packet.new.self (opens_from o h.number h.shield p (transition_at d steps))))
    (sym c.in-None.is ∙ c.agent.ensures) (c.drop_packet.ensures (transition_at d steps) shows))
