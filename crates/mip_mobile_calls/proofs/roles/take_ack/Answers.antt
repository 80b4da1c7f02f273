use Rattle.std.proofs.Common.{sym, ap, ◌∙◌, subst, OnOk}
use Rattle.std.specs.Prelude.{Option, option_map}
use Rattle.mip_words.specs.declared.address.Address.{Address}
use Rattle.mip_ipv6.specs.Packet.{packet as tree, source_of}
use Rattle.mip_mobhdr.specs.OptionValues.{values}
use Rattle.mip_rules_mobile.specs.declared.home_update.HomeUpdate.{HomeUpdate}
use Rattle.mip_rules_mobile.specs.HomeRules.{home_answered}
use Rattle.mip_rules_mobile.specs.PeerRules.{takes_ack_of}
use Rattle.mip_rules_mobile.specs.ReceivingRules.{acks_by, takes_ack}
use Rattle.mip_mobile_calls.specs.declared.sent_update.SentUpdate.{SentUpdate}
use Rattle.mip_mobile_calls.proofs.Contexts.{transition_at, from-context}
use Rattle.mip_mobile_registration.specs.Seen.{Shows}
use Rattle.mip_mobile_calls.proofs.roles.take_ack.Goals as goal

pub returns-in-Some : goal.returns-in-Some
unfolding takes_ack
returns-in-Some c =
    let d = c.args.context.now in
    let h = c.args.handed.now in
    let p = tree c.args.packet.now in
    let a = c.args.ack.now in
    let o = values c.args.options.now in
    from-context d (λ t. OnOk c.take_home_ack.result (Shows c.take_home_ack.new.context (takes_ack h.number h.tunnelled h.shield p a.status a.sequence a.lifetime o t)))
    (λ steps shows. subst (λ (u : Option HomeUpdate). OnOk c.take_home_ack.result (Shows c.take_home_ack.new.context (acks_by u h.number (source_of p.head) a.status a.sequence a.lifetime o.authorization p.body (transition_at d steps))))
    (ap (λ (o : Option SentUpdate). option_map (λ u. u.update) o) (sym c.in-Some.is) ∙ c.answered.ensures ∙ ap (λ (s : Address). home_answered d.known h.tunnelled h.shield s a.status a.sequence) c.sender-source.ensures)
    (c.take_home_ack.ensures (transition_at d steps) shows))

pub returns-in-None : goal.returns-in-None
unfolding takes_ack
returns-in-None c =
    let d = c.args.context.now in
    let h = c.args.handed.now in
    let p = tree c.args.packet.now in
    let a = c.args.ack.now in
    let o = values c.args.options.now in
    from-context d (λ t. OnOk c.take_ack_of.result (Shows c.take_ack_of.new.context (takes_ack h.number h.tunnelled h.shield p a.status a.sequence a.lifetime o t)))
    (λ steps shows. subst (λ (u : Option HomeUpdate). OnOk c.take_ack_of.result (Shows c.take_ack_of.new.context (acks_by u h.number (source_of p.head) a.status a.sequence a.lifetime o.authorization p.body (transition_at d steps))))
    (ap (λ (o : Option SentUpdate). option_map (λ u. u.update) o) (sym c.in-None.is) ∙ c.answered.ensures ∙ ap (λ (s : Address). home_answered d.known h.tunnelled h.shield s a.status a.sequence) c.sender-source.ensures)
    (subst (λ (s : Address). OnOk c.take_ack_of.result (Shows c.take_ack_of.new.context (takes_ack_of h.number s a.status a.sequence a.lifetime o.authorization p.body (transition_at d steps)))) c.sender-source.ensures
    (c.take_ack_of.ensures (transition_at d steps) shows)))
