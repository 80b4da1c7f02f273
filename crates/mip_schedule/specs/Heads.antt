-- The head of a text in memory, seen as what is read.
use Rattle.mip_lines.specs.Cutting.{rows_of}
use Rattle.mip_schedule.specs.Reading as reading
use Rattle.mip_schedule.specs.declared.head.Head.{Head}

abbrev pub head_seen : Head → reading.Head
head_seen h = record { version = h.version; seed = h.seed; start = h.start; rows = rows_of h.rest.now }
