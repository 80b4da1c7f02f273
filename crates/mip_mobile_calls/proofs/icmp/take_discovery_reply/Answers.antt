use Rattle.std.proofs.Common.{sym, ◌∙◌, subst, OnOk}
use Rattle.std.specs.Prelude.{Bool, if◌then◌else◌}
use Rattle.mip_rules_mobile.specs.IcmpRules.{drops_icmp, finds, agents_named, takes_discovery_reply}
use Rattle.mip_rules_mobile.specs.Transitions.{Transition}
use Rattle.mip_mobile_registration.specs.Seen.{Shows}
use Rattle.mip_mobile_calls.proofs.Contexts.{transition_at, from-context}
use Rattle.mip_mobile_calls.proofs.icmp.take_discovery_reply.Goals as goal

pub returns-then-is_matched : goal.returns-then-is_matched
unfolding takes_discovery_reply
returns-then-is_matched c =
    let d = c.args.context.now in
    let number = c.args.number in
    let agents = c.args.agents.now in
    from-context d (λ t. OnOk c.find_named.result (Shows c.find_named.new.context (takes_discovery_reply number c.args.identifier agents t)))
    (λ steps shows. subst (λ (b : Bool). OnOk c.find_named.result (Shows c.find_named.new.context (let u : Transition = (if b then finds number d.known.standing (agents_named agents) (transition_at d steps) else drops_icmp number (transition_at d steps)) in u)))
    (sym c.if-is_matched.true ∙ c.is_matched.ensures) (c.find_named.ensures (transition_at d steps) shows))

pub returns-else-is_matched : goal.returns-else-is_matched
unfolding takes_discovery_reply
returns-else-is_matched c =
    let d = c.args.context.now in
    let number = c.args.number in
    let agents = c.args.agents.now in
    from-context d (λ t. OnOk c.drop_packet.result (Shows c.drop_packet.new.self (takes_discovery_reply number c.args.identifier agents t)))
    (λ steps shows. subst (λ (b : Bool). OnOk c.drop_packet.result (Shows c.drop_packet.new.self (let u : Transition = (if b then finds number d.known.standing (agents_named agents) (transition_at d steps) else drops_icmp number (transition_at d steps)) in u)))
    (sym c.if-is_matched.false ∙ c.is_matched.ensures) (c.drop_packet.ensures (transition_at d steps) shows))
