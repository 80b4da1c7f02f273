use Rattle.std.proofs.Common.{◌≡◌, ◌-◌}
use Rattle.mip_rules_mobile.specs.Transitions.{Transition}
use Rattle.mip_rules_mobile.specs.RingingRules.{ticks}
use Rattle.mip_afresh_mobile_state.specs.Turns.{Shows}
use Rattle.mip_afresh_mobile_rules.proofs.ringing.ring_times.Given as goal

abbrev pub invariant-loop-round : goal.invariant-loop-round
invariant-loop-round l =
    (t : Transition) → Shows l.fn.turn t → (u : Transition) × Shows l.turn u × (ticks (l.fn.times - l.round) u ≡ ticks l.fn.times t)
