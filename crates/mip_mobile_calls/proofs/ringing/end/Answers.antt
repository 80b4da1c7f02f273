use Rattle.std.proofs.Common.{subst, OnOk}
use Rattle.std.specs.Prelude.{Option}
use Rattle.mip_rules_mobile.specs.declared.registered.Registered.{Registered}
use Rattle.mip_mobile_calls.proofs.Contexts.{transition_at, from-context}
use Rattle.mip_mobile_registration.specs.Seen.{Shows}
use Rattle.mip_rules_mobile.specs.RingingRules.{ends_home}
use Rattle.mip_mobile_calls.proofs.ringing.end.Goals as goal

pub returns : goal.returns
returns c =
    let d = c.args.context.now in
    from-context d (λ t. OnOk c.end_home.result (Shows c.end_home.new.context (ends_home t.known.registered t)))
    (λ steps shows. subst (λ (r : Option Registered). OnOk c.end_home.result (Shows c.end_home.new.context (ends_home r (transition_at d steps)))) c.registered-registered.ensures (c.end_home.ensures (transition_at d steps) shows))
