use Rattle.std.proofs.Common.{length, ◌-◌, ◌≡◌, ◌≤◌, drop}
use Rattle.std.specs.Io.KnownBytes.{append_known}
use Rattle.mip_outside.proofs.buffered.put_on.Given as goal

abbrev pub invariant-loop-at : goal.invariant-loop-at
invariant-loop-at g l = record {
  within : l.at ≤ length l.bytes;
  held : append_known (g.K.Sink.held l.sink) (drop l.at l.bytes) ≡ append_known (g.K.Sink.held l.initial.sink) (drop l.initial.at l.bytes);
  faults : g.K.Sink.faults l.initial.sink ≤ g.K.Sink.faults l.sink;
}

abbrev pub decreases-loop-at : goal.decreases-loop-at
decreases-loop-at g l = length l.bytes - l.at
