use Rattle.std.proofs.Common.{◌-◌, length}
use Rattle.mip_schedule.specs.Schedules.{content}
use Rattle.mip_afresh_run.specs.Runs.{IsRunOf}
use Rattle.mip_audit_by_run.proofs.histories.run_afresh.Given as goal

abbrev pub invariant-loop-run : goal.invariant-loop-run
invariant-loop-run l = IsRunOf l.run (content l.schedule)

abbrev pub decreases-loop-run : goal.decreases-loop-run
decreases-loop-run l = length l.schedule.events - l.run.next
