use Rattle.std.proofs.Common.{ℕ, subst, OnOk}
use Rattle.mip_rules_mobile.specs.RingingRules.{ticks, ticks_all}
use Rattle.mip_mobile_calls.proofs.Contexts.{transition_at, from-context}
use Rattle.mip_mobile_registration.specs.Seen.{Shows}
use Rattle.mip_mobile_calls.proofs.ringing.ring_all.Goals as goal

pub returns : goal.returns
unfolding ticks_all
returns c =
    let d = c.args.context.now in
    from-context d (λ t. OnOk c.ring_times.result (Shows c.ring_times.new.context (ticks_all t)))
    (λ steps shows. subst (λ (n : ℕ). OnOk c.ring_times.result (Shows c.ring_times.new.context (ticks n (transition_at d steps)))) c.timers-times.ensures (c.ring_times.ensures (transition_at d steps) shows))
