-- The first lines of a configuration in memory, seen as what is read.
use Rattle.mip_lines.specs.Cutting.{rows_of}
use Rattle.mip_config.specs.Reading as reading
use Rattle.mip_config.specs.declared.head.Head.{Head}

abbrev pub head_seen : Head → reading.Head
head_seen h = record { seed = h.seed; node = h.node; port = h.port; rows = rows_of h.rest.now }
