use Rattle.std.proofs.Common.{◌≡◌, ◌⊎◌, ◌≤◌, ◌-◌, length}
use Rattle.mip_schedule.specs.Schedules.{content}
use Rattle.mip_history.specs.Setup.{setup_of}
use Rattle.mip_past.specs.Places.{place_at}
use Rattle.mip_afresh_run.specs.Runs.{IsRunOf}
use Rattle.mip_past_led.proofs.whole.whole_before.Given as goal

abbrev pub invariant-loop-run : goal.invariant-loop-run
invariant-loop-run l = record {
  stands : IsRunOf l.run (content l.schedule);
  count : l.run.next ≡ l.count;
  before : (l.count ≡ 0) ⊎ (place_at (setup_of (content l.schedule)) l.schedule.events l.count ≤ l.place);
}

abbrev pub decreases-loop-run : goal.decreases-loop-run
decreases-loop-run l = length l.schedule.events - l.run.next
