use Rattle.std.proofs.Common.{subst}
use Rattle.std.specs.Prelude.{Bool, if◌then◌else◌}
use Rattle.mip_mobile_calls.proofs.Contexts.{transition_at, from-context}
use Rattle.mip_mobile_registration.specs.Seen.{Shows}
use Rattle.mip_rules_mobile.specs.Transitions.{Transition, noted}
use Rattle.mip_rules_mobile.specs.Steps.{Tries}
use Rattle.mip_rules_mobile.specs.Trials.{Rest}
use Rattle.mip_rules_mobile.specs.RingingRules.{rests_if_bound}
use Rattle.mip_mobile_calls.proofs.ringing.rest_if_bound.Goals as goal

pub returns : goal.returns
returns c =
    let d = c.args.context.now in
    let row = c.args.row in
    from-context d (λ t. Shows c.rest_where.new.context (rests_if_bound row t))
    (λ steps shows. subst (λ (b : Bool). Shows c.rest_where.new.context (let u : Transition = (if b then noted (Tries row Rest) (transition_at d steps) else transition_at d steps) in u)) c.is_bound-bound.ensures
    (c.rest_where.ensures (transition_at d steps) shows))
