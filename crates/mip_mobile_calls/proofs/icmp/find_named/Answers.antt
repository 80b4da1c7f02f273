use Rattle.std.proofs.Common.{List, subst, OnOk}
use Rattle.mip_words.specs.declared.address.Address.{Address}
use Rattle.mip_rules_mobile.specs.declared.attachment.Attachment.{Attachment}
use Rattle.mip_mobile_calls.proofs.Contexts.{transition_at, from-context}
use Rattle.mip_mobile_registration.specs.Seen.{Shows}
use Rattle.mip_rules_mobile.specs.IcmpRules.{finds, agents_named}
use Rattle.mip_mobile_calls.proofs.icmp.find_named.Goals as goal

pub returns : goal.returns
returns c =
    let d = c.args.context.now in
    let number = c.args.number in
    from-context d (λ t. OnOk c.find.result (Shows c.find.new.context (finds number t.known.standing (agents_named c.args.agents.now) t)))
    (λ steps shows. subst (λ (s : Attachment). OnOk c.find.result (Shows c.find.new.context (finds number s (agents_named c.args.agents.now) (transition_at d steps)))) c.standing-standing.ensures
    (subst (λ (l : List Address). OnOk c.find.result (Shows c.find.new.context (finds number c.standing-standing.result l (transition_at d steps)))) c.in_ok-agents.ensures
    (c.find.ensures (transition_at d steps) shows)))
