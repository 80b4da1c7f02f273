use Rattle.std.proofs.Common.{◌≡◌, ◌+◌, ◌≤◌, [], length}
use Rattle.mip_lines.specs.Cutting.{rows_of}
use Rattle.mip_symbols.specs.Places.{AreFew}
use Rattle.mip_schedule.specs.Reading.{declarations_of}
use Rattle.mip_schedule.proofs.declaration_lines.declarations_from.Given as goal

abbrev pub invariant-loop-row : goal.invariant-loop-row
invariant-loop-row l = record {
  so_far : declarations_of l.declarations l.line (rows_of l.rest) ≡ declarations_of [] l.first (rows_of l.text);
  few : AreFew l.declarations;
  short : l.line + length l.rest ≤ l.first + length l.text;
}

abbrev pub decreases-loop-row : goal.decreases-loop-row
decreases-loop-row l = length l.rest
