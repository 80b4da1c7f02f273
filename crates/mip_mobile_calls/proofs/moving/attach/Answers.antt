use Rattle.std.proofs.Common.{sym, ap, ◌∙◌, subst, OnOk}
use Rattle.std.specs.Prelude.{Bool, if◌then◌else◌}
use Rattle.mip_words.specs.declared.address.Address.{Address}
use Rattle.mip_rules_mobile.specs.declared.attachment.Attachment.{Attachment}
use Rattle.mip_rules_mobile.specs.MovingRules.{uses_prefix, leaves_first, arrives, attaches}
use Rattle.mip_mobile_calls.proofs.Contexts.{transition_at, from-context}
use Rattle.mip_mobile_registration.specs.Seen.{Shows}
use Rattle.mip_rules_mobile.specs.Transitions.{Transition}
use Rattle.mip_mobile_calls.proofs.moving.attach.Goals as goal

pub returns-then-uses_prefix : goal.returns-then-uses_prefix
unfolding attaches
returns-then-uses_prefix c =
    let d = c.args.context.now in
    let p = c.args.prefix.0 in
    let used = c.uses_prefix.ensures ∙ ap (λ (s : Attachment). uses_prefix s c.home.result p) c.standing-standing.ensures ∙ ap (λ (a : Address). uses_prefix d.known.standing a p) c.home.ensures.value in
    from-context d (λ t. Shows d (attaches p c.args.of_home c.args.of_address t))
    (λ steps shows. subst (λ (b : Bool). Shows d (let u : Transition = (if b then transition_at d steps else arrives p c.args.of_address (leaves_first d.known.standing c.args.of_home (transition_at d steps))) in u))
    (sym c.if-uses_prefix.true ∙ used) shows)

pub returns : goal.returns
unfolding attaches
returns c =
    let d = c.args.context.now in
    let p = c.args.prefix.0 in
    let used = c.uses_prefix.ensures ∙ ap (λ (s : Attachment). uses_prefix s c.home.result p) c.standing-standing.ensures ∙ ap (λ (a : Address). uses_prefix d.known.standing a p) c.home.ensures.value in
    from-context d (λ t. OnOk c.arrive.result (Shows c.arrive.new.context (attaches p c.args.of_home c.args.of_address t)))
    (λ steps shows. subst (λ (b : Bool). OnOk c.arrive.result (Shows c.arrive.new.context (let u : Transition = (if b then transition_at d steps else arrives p c.args.of_address (leaves_first d.known.standing c.args.of_home (transition_at d steps))) in u)))
    (sym c.if-uses_prefix.false ∙ used)
    (subst (λ (s : Attachment). OnOk c.arrive.result (Shows c.arrive.new.context (arrives p c.args.of_address (leaves_first s c.args.of_home (transition_at d steps))))) c.standing-standing.ensures
    (c.arrive.ensures _ (c.in_ok-leave_first.ensures (transition_at d steps) shows))))
