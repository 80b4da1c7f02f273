use Rattle.std.proofs.Common.{◌≡◌, ◌++◌, take}
use Rattle.std.specs.Prelude.{map}
use Rattle.mip_lines.specs.Lines.{lines_text}
use Rattle.mip_schedule.specs.Spelling.{event_text}
use Rattle.mip_schedule.proofs.writing.put_events.Given as goal

abbrev pub invariant-loop-event : goal.invariant-loop-event
invariant-loop-event l = l.out ≡ l.fn.out ++ lines_text (map (event_text l.numbered l.ds) (take l.event-index l.events))
