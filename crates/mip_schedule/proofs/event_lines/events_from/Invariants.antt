use Rattle.std.proofs.Common.{◌≡◌, ◌+◌, ◌≤◌, [], length}
use Rattle.mip_lines.specs.Cutting.{rows_of}
use Rattle.mip_schedule.specs.EventTimes.{waited, carried}
use Rattle.mip_schedule.specs.Reading.{events_of}
use Rattle.mip_schedule.proofs.event_lines.events_from.Given as goal

abbrev pub invariant-loop-row : goal.invariant-loop-row
invariant-loop-row l = record {
  so_far : events_of l.numbered l.ds l.events l.line (rows_of l.rest) ≡ events_of l.numbered l.ds [] l.first (rows_of l.text);
  waits : l.waits ≡ waited l.events;
  carries : l.carries ≡ carried l.events;
  few_waits : l.waits ≤ 36000000;
  few_carries : l.carries ≤ 200000;
  short : l.line + length l.rest ≤ l.first + length l.text;
}

abbrev pub decreases-loop-row : goal.decreases-loop-row
decreases-loop-row l = length l.rest
