use Rattle.std.proofs.Common.{ap, ◌∙◌, ℕ, subst, OnOk}
use Rattle.mip_mobile_calls.proofs.Contexts.{transition_at, from-context}
use Rattle.mip_mobile_registration.specs.Seen.{Shows}
use Rattle.mip_rules_mobile.specs.Timing.{doubled}
use Rattle.mip_rules_mobile.specs.HomeRules.{resends_home}
use Rattle.mip_mobile_calls.proofs.ringing.resend.Goals as goal

pub returns : goal.returns
returns c =
    let d = c.args.context.now in
    from-context d (λ t. OnOk c.resend_home.result (Shows c.resend_home.new.context (resends_home (doubled t.known.wait) t)))
    (λ steps shows. subst (λ (n : ℕ). OnOk c.resend_home.result (Shows c.resend_home.new.context (resends_home n (transition_at d steps))))
    (c.doubled-wait.ensures.value ∙ ap (λ (n : ℕ). doubled n) c.wait.ensures) (c.resend_home.ensures (transition_at d steps) shows))
