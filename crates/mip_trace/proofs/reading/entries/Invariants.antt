use Rattle.std.proofs.Common.{◌≡◌, ◌+◌, ◌*◌, ◌≤◌, [], length}
use Rattle.mip_lines.specs.Cutting.{rows_of}
use Rattle.mip_trace.specs.Reading.{entries_of}
use Rattle.mip_trace.proofs.reading.entries.Given as goal

abbrev pub invariant-loop-row : goal.invariant-loop-row
invariant-loop-row l = record {
  so_far : entries_of l.ds l.history l.line (rows_of l.rest) ≡ entries_of l.ds [] 1 (rows_of l.text);
  short : 2 * l.line + length l.rest ≤ 2 + length l.text;
}

abbrev pub decreases-loop-row : goal.decreases-loop-row
decreases-loop-row l = length l.rest
