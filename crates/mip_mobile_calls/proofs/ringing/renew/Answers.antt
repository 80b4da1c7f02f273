use Rattle.std.proofs.Common.{subst, OnOk}
use Rattle.mip_rules_mobile.specs.declared.attachment.Attachment.{Attachment}
use Rattle.mip_mobile_calls.proofs.Contexts.{transition_at, from-context}
use Rattle.mip_mobile_registration.specs.Seen.{Shows}
use Rattle.mip_rules_mobile.specs.RingingRules.{registers_if_away}
use Rattle.mip_mobile_calls.proofs.ringing.renew.Goals as goal

pub returns : goal.returns
returns c =
    let d = c.args.context.now in
    from-context d (λ t. OnOk c.register_if_away.result (Shows c.register_if_away.new.context (registers_if_away t.known.standing t)))
    (λ steps shows. subst (λ (s : Attachment). OnOk c.register_if_away.result (Shows c.register_if_away.new.context (registers_if_away s (transition_at d steps)))) c.standing-standing.ensures (c.register_if_away.ensures (transition_at d steps) shows))
