-- Laws and invariants of Tables: only proofs stand on them.
use Rattle.std.specs.Prelude.{if◌then◌else◌, Option, Some, None}
use Rattle.mip_proxynd.specs.declared.neighbour_entry.NeighbourEntry.{NeighbourEntry}

-- what is kept of an address once more is advertised of it
abbrev pub kept_after : NeighbourEntry → Option NeighbourEntry → Option NeighbourEntry
kept_after kept None = Some kept
kept_after kept (Some earlier) = if kept.over then Some kept else Some earlier
