use Rattle.std.proofs.Common.{subst}
use Rattle.mip_rules_mobile.specs.declared.attachment.Attachment.{Attachment}
use Rattle.mip_mobile_calls.proofs.Contexts.{transition_at, from-context}
use Rattle.mip_mobile_registration.specs.Seen.{Shows}
use Rattle.mip_rules_mobile.specs.Transitions.{noted}
use Rattle.mip_rules_mobile.specs.Steps.{Detaches}
use Rattle.mip_rules_mobile.specs.TrialRules.{each_row}
use Rattle.mip_rules_mobile.specs.MovingRules.{releases, unbinds, leaves}
use Rattle.mip_mobile_calls.proofs.moving.detach.Goals as goal

pub returns : goal.returns
unfolding leaves
returns c =
    let d = c.args.context.now in
    from-context d (λ t. Shows c.detach.new.self (leaves c.args.of_home t))
    (λ steps shows. subst (λ (s : Attachment). Shows c.detach.new.self (noted Detaches (each_row unbinds (releases s c.args.of_home (transition_at d steps))))) c.standing-standing.ensures
    (c.detach.ensures _ (c.in_ok-unbind_all.ensures _ (c.in_ok-release.ensures (transition_at d steps) shows))))
