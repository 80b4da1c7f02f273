-- Laws and invariants of Made: only proofs stand on them.
use Rattle.std.specs.Prelude.{ℕ, List, map, false}
use Rattle.mip_lines.specs.Lines.{lines_text}
use Rattle.mip_schedule.specs.Spelling.{event_text}
use Rattle.mip_make.specs.Network.{network}
use Rattle.mip_make.specs.Made.{events_from}

-- the lines of so many events
abbrev pub events_text : List ℕ → ℕ → List ℕ
events_text seed count = lines_text (map (event_text false network) (events_from seed 0 count))
