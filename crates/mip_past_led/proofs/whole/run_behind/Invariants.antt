use Rattle.std.proofs.Common.{◌≡◌}
use Rattle.mip_schedule.specs.Schedules.{content}
use Rattle.mip_afresh_run.specs.Runs.{IsRunOf}
use Rattle.mip_past_led.proofs.whole.run_behind.Given as goal

abbrev pub invariant-loop-event : goal.invariant-loop-event
invariant-loop-event l = record {
  stands : IsRunOf l.run (content l.schedule);
  count : l.run.next ≡ l._event;
}
