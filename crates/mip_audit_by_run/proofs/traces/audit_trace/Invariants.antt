use Rattle.std.proofs.Common.{◌≡◌, ◌-◌, length}
use Rattle.std.specs.Prelude.{Some}
use Rattle.mip_schedule.specs.Schedules.{content}
use Rattle.mip_afresh_run.specs.Runs.{IsRunOf}
use Rattle.mip_audit.proofs.Pieces.{IsCompared}
use Rattle.mip_audit_by_run.proofs.traces.audit_trace.Given as goal

abbrev pub invariant-loop-run : goal.invariant-loop-run
invariant-loop-run l = record {
  stands : IsRunOf l.run (content l.schedule);
  all : l.met ≡ length l.run.telling.run.past;
  compared : IsCompared (record { rest = l.trace; line = 1 }) l.comparison (Some l.schedule.declarations) l.run.telling.run.past;
}

abbrev pub decreases-loop-run : goal.decreases-loop-run
decreases-loop-run l = length l.schedule.events - l.run.next
