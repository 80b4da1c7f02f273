use Rattle.std.proofs.Common.{◌≡◌, ◌-◌, ◌≤◌, length}
use Rattle.std.specs.Prelude.{Some}
use Rattle.std.specs.Io.KnownBytes.{append_known}
use Rattle.std.specs.List.{AllByRecursion}
use Rattle.mip_entries.specs.Widths.{HasWidths}
use Rattle.mip_schedule.specs.Schedules.{content}
use Rattle.mip_replay.specs.Permitted.{permitted}
use Rattle.mip_trace.specs.Lines.{trace_text}
use Rattle.mip_replay.specs.Pieces.{IsRunOf}
use Rattle.mip_replies.proofs.tracing.write_trace.Given as goal

abbrev pub invariant-loop-line : goal.invariant-loop-line
invariant-loop-line g l = record {
  stands : IsRunOf l.run (content l.fn.schedule);
  written : g.K.Sink.held l.sink ≡ append_known (g.K.Sink.held l.initial.sink) (trace_text (Some l.fn.schedule.declarations) l.run.told);
  fit : AllByRecursion HasWidths l.run.told;
  faults : g.K.Sink.faults l.initial.sink ≤ g.K.Sink.faults l.sink;
}

abbrev pub decreases-loop-line : goal.decreases-loop-line
decreases-loop-line g l = length (permitted (content l.fn.schedule)) - length l.run.told
