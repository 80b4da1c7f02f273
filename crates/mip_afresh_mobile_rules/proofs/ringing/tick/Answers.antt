use Rattle.std.specs.Prelude.{length}
use Rattle.mip_rules_mobile.specs.RingingRules.{ticks, ticks_all}
use Rattle.mip_afresh_mobile_rules.proofs.Asking.{asked}
use Rattle.mip_afresh_mobile_rules.proofs.ringing.tick.Goals as goal

pub returns : goal.returns
unfolding ticks_all
returns c =
    asked c.ring_times.result c.args.turn.now c.ring_times.new.turn (λ k n. length k.list.timers) c.timers-timers.result (λ n. ticks n) c.timers-timers.ensures c.ring_times.ensures
