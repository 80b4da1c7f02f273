use Rattle.std.proofs.Common.{◌≡◌, ◌≤◌, take}
use Rattle.std.specs.Io.KnownBytes.{append_known}
use Rattle.mip_trace.specs.Lines.{trace_text}
use Rattle.mip_printing.proofs.entries.write_entries.Given as goal

abbrev pub invariant-loop-entry : goal.invariant-loop-entry
invariant-loop-entry g l = record {
  written : g.K.Sink.held l.sink ≡ append_known (g.K.Sink.held l.initial.sink) (trace_text l.names (take l.entry-index l.entries));
  faults : g.K.Sink.faults l.initial.sink ≤ g.K.Sink.faults l.sink;
}
