use Rattle.std.proofs.Common.{sym, subst}
use Rattle.mip_rules_mobile.specs.RingingRules.{ticks}
use Rattle.mip_rules_mobile.specs.Transitions.{Transition}
use Rattle.mip_mobile_registration.specs.Seen.{Shows}
use Rattle.mip_mobile_calls.proofs.Rounds.{ticks-none, tick-next}
use Rattle.mip_mobile_calls.proofs.ringing.ring_times.Goals as goal

pub loop-round-init : goal.loop-round-init
loop-round-init c = λ t shows. subst (λ (u : Transition). Shows c.args.context.now u) (sym (ticks-none t)) shows

pub loop-round-preserved : goal.loop-round-preserved
loop-round-preserved c = λ t shows.
    subst (λ (u : Transition). Shows c.ring_once.new.context u) (sym (tick-next c.loop-round._round t))
    (c.in_ok-ring_once.ensures (ticks c.loop-round._round t) (c.loop-round.invariant t shows))
