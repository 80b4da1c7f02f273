use Rattle.std.proofs.Common.{◌≡◌, ◌++◌, drop, map}
use Rattle.mip_afresh_mobile_state.specs.Trials.{row_seen, timer_seen}
use Rattle.mip_past_led.specs.Questions.{due_of}
use Rattle.mip_past_led.proofs.lists.due_in.Given as goal

abbrev pub invariant-loop-timer : goal.invariant-loop-timer
invariant-loop-timer l =
    l.due.items ++ map (due_of (map row_seen l.rows)) (map timer_seen (drop l.timer-index l.timers)) ≡ map (due_of (map row_seen l.rows)) (map timer_seen l.timers)
