-- The schedule that a seed and a count make.
use Rattle.std.specs.Prelude.{ℕ, List, map, false}
use Rattle.std.specs.List.{range_with_len}
use Rattle.mip_lines.specs.Lines.{line_text}
use Rattle.mip_schedule.specs.Contents.{Content}
use Rattle.mip_schedule.specs.declared.event.Event.{Event}
use Rattle.mip_schedule.specs.Spelling.{event_text}
use Rattle.mip_make.specs.Draws.{draw_of}
use Rattle.mip_make.specs.Drawn.{drawn}
use Rattle.mip_make.specs.Network.{network}

-- the event of number i, from 0
abbrev pub event_at : List ℕ → ℕ → Event
event_at seed i = drawn i (draw_of seed i)

-- so many events, from number i on
abbrev pub events_from : List ℕ → ℕ → ℕ → List Event
events_from seed i count = map (event_at seed) (range_with_len i count)

abbrev pub made : List ℕ → ℕ → Content
made seed count = record { version = 1; seed = seed; start = record { 0 = 0 }; declarations = network; events = events_from seed 0 count }

-- the line of an event
abbrev pub event_line : Event → List ℕ
event_line e = line_text (event_text false network e)
