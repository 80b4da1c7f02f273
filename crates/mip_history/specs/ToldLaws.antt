-- Laws and invariants of Told: only proofs stand on them.
use Rattle.std.specs.Prelude.{ℕ, Bool, true, nat_lt, if◌then◌else◌, Option, Some, None}
use Rattle.mip_entries.specs.declared.entry.Entry.{Entry}
use Rattle.mip_entries.specs.declared.entry.Entry.TheVariants as entries

-- a moment behind this one was told
abbrev pub late_says : ℕ → Entry → Option Bool
late_says u (entries.At moment) = if nat_lt u moment.0 then Some true else None
late_says u _ = None
